-- What has become of the digests of one list in another.
use Rattle.std.specs.Prelude.{◌≡◌, ◌≢◌, ℕ, true, List, [], filter, map}
use Rattle.std.specs.List.{AllByRecursion, list_any}
use Rattle.std.specs.Str.{bytes_eq}
use Rattle.std.specs.declared.cmp.Ordering.{Ordering}
use Rattle.edi_record.specs.Orders.{bytes_cmp}
use Rattle.edi_schema.specs.Sorted.{AlwaysRises, sort_by}
use Rattle.edi_changes.specs.declared.changes.Change.{Change}
use Rattle.edi_changes.specs.declared.changes.Fate.{Fate}
use Rattle.edi_changes.specs.declared.changes.Fate.TheVariants.{New, Gone, Changed, Same}
use Rattle.edi_changes.specs.declared.entry.Entry.{Entry}

-- the digests that a list has of a subject, in the order of their bytes
abbrev pub digests_of : List ℕ → List Entry → List (List ℕ)
digests_of subject entries =
    sort_by bytes_cmp (map (λ (e : Entry). e.digest) (filter (λ (e : Entry). bytes_eq subject e.subject) entries))

-- what has become of a subject that has these digests in the list before, and those in the list after
abbrev pub IsFate : Fate → List (List ℕ) → List (List ℕ) → Type 0
IsFate New before after = (before ≡ []) × (after ≢ [])
IsFate Gone before after = (before ≢ []) × (after ≡ [])
IsFate Changed before after = (before ≢ []) × (after ≢ []) × (before ≢ after)
IsFate Same before after = (before ≢ []) × (before ≡ after)

-- something is said of a subject
abbrev pub IsTold : List Change → List ℕ → Type 0
IsTold changes subject = list_any (λ (c : Change). bytes_eq subject c.subject) changes ≡ true

-- changes go by subject
abbrev pub change_cmp : Change → Change → Ordering
change_cmp a b = bytes_cmp a.subject b.subject

-- Something is said of each subject of either list, once and in the order of subjects: what has become of it.
pub record AreListChanges (before after : List Entry) (changes : List Change) : Type 0 where
  pub each : AllByRecursion (λ (c : Change). IsFate c.fate (digests_of c.subject before) (digests_of c.subject after))
      changes
  pub all_before : AllByRecursion (λ (e : Entry). IsTold changes e.subject) before
  pub all_after : AllByRecursion (λ (e : Entry). IsTold changes e.subject) after
  pub order : AlwaysRises change_cmp changes
