-- The lines of the records that are listed are those of the text.
use Rattle.std.proofs.Common.{◌≡◌, ◌∙◌, ℕ, Bool, true, false, List, [], ◌∷◌, ◌++◌, Option, Some, None, append-nil, append_assoc, ap, ap₂, codes, get_or, refl, sym, if◌then◌else◌}
use Rattle.std.specs.List.{flat_map}
use Rattle.std.proofs.lemmas.Grind.{flat_map-append}
use Rattle.edi_record.specs.declared.record.Kind.{Kind}
use Rattle.edi_record.specs.declared.record.Kind.TheVariants.{Pno, Par, Pfe, Fea, Lnk}
use Rattle.edi_plan.specs.Places.{places_of}
use Rattle.edi_report.specs.Lines.{charsets_line, first_line, is_reached, line_by, lines_of, lone_line, report_text, second_line, totals_line}
use Rattle.edi_report.specs.Reports.{Report}
use Rattle.edi_json.specs.Listed.{added, first_listed, listed, listed_by, listed_line, listed_of, second_listed}

one_by : (r : Report) (i : ℕ) (kept went : Option ℕ) → line_by r i kept went ≡ flat_map (listed_line r) (listed_by i kept went)
one_by r i (Some k) went = refl
one_by r i None (Some j) = sym (append-nil _)
one_by r i None None = sym (append-nil _)

one_second : (r : Report) (j : ℕ) (reached : Bool) → (if reached then [] else lone_line (codes "+ ") r.second j) ≡ flat_map (listed_line r) (if reached then [] else added j ∷ [])
one_second r j true = refl
one_second r j false = sym (append-nil _)

-- what stands for each place, list by list
pub by_places : {X Y : Type 0} (line : X → List Y) (all : ℕ → List X) (f : ℕ → List Y) → ((i : ℕ) → f i ≡ flat_map line (all i)) → (places : List ℕ) → flat_map f places ≡ flat_map line (flat_map all places)
by_places line all f each [] = refl
by_places line all f each (i ∷ places) =
    ap₂ (λ xs ys. xs ++ ys) (each i) (by_places line all f each places) ∙ sym (flat_map-append line (all i) (flat_map all places))

of_kind : (r : Report) (kind : Kind) → lines_of r kind ≡ flat_map (listed_line r) (listed_of r kind)
of_kind r kind =
    ap₂ (λ xs ys. xs ++ ys)
    (by_places (listed_line r) (first_listed r) (first_line r) (λ i. one_by r i (get_or r.unchanged i None) (get_or r.became i None)) (places_of kind r.first.accepted))
    (by_places (listed_line r) (second_listed r) (second_line r) (λ j. one_second r j (is_reached r.became j)) (places_of kind r.second.accepted))
    ∙ sym (flat_map-append (listed_line r) (flat_map (first_listed r) (places_of kind r.first.accepted)) (flat_map (second_listed r) (places_of kind r.second.accepted)))

-- five lists of lists, one after the other
pub five : {X Y : Type 0} (line : X → List Y) (a b c d e : List X) → flat_map line (a ++ b ++ c ++ d ++ e) ≡ flat_map line a ++ flat_map line b ++ flat_map line c ++ flat_map line d ++ flat_map line e
five line a b c d e =
    flat_map-append line (a ++ b ++ c ++ d) e
    ∙ ap (λ xs. xs ++ flat_map line e) (flat_map-append line (a ++ b ++ c) d
    ∙ ap (λ xs. xs ++ flat_map line d) (flat_map-append line (a ++ b) c
    ∙ ap (λ xs. xs ++ flat_map line c) (flat_map-append line a b)))

behind : {Y : Type 0} (head a b c d e tail : List Y) → head ++ a ++ b ++ c ++ d ++ e ++ tail ≡ head ++ (a ++ b ++ c ++ d ++ e) ++ tail
behind head a b c d e tail = simp (append_assoc) refl

pub lists_the_same : (r : Report) → report_text r ≡ charsets_line r ++ flat_map (listed_line r) (listed r) ++ totals_line r
lists_the_same r =
    let line = listed_line r in
    let f = flat_map line (listed_of r Fea) in
    let p = flat_map line (listed_of r Pfe) in
    let a = flat_map line (listed_of r Par) in
    let n = flat_map line (listed_of r Pno) in
    let l = flat_map line (listed_of r Lnk) in
    let head = charsets_line r in
    let tail = totals_line r in
    ap (λ x. head ++ x ++ lines_of r Pfe ++ lines_of r Par ++ lines_of r Pno ++ lines_of r Lnk ++ tail) (of_kind r Fea)
    ∙ ap (λ x. head ++ f ++ x ++ lines_of r Par ++ lines_of r Pno ++ lines_of r Lnk ++ tail) (of_kind r Pfe)
    ∙ ap (λ x. head ++ f ++ p ++ x ++ lines_of r Pno ++ lines_of r Lnk ++ tail) (of_kind r Par)
    ∙ ap (λ x. head ++ f ++ p ++ a ++ x ++ lines_of r Lnk ++ tail) (of_kind r Pno)
    ∙ ap (λ x. head ++ f ++ p ++ a ++ n ++ x ++ tail) (of_kind r Lnk)
    ∙ behind head f p a n l tail
    ∙ ap (λ x. head ++ x ++ tail) (sym (five line (listed_of r Fea) (listed_of r Pfe) (listed_of r Par) (listed_of r Pno) (listed_of r Lnk)))
