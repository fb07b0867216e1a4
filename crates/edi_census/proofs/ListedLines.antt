-- The lines of rules that are broken, one behind the other.
use Rattle.std.proofs.Common.{◌≡◌, ◌∙◌, ℕ, ◌+◌, ◌<◌, ◌≤◌, List, [], ◌∷◌, ◌++◌, length, get_or, flat_map, refl, sym, ap, subst, arith, append-nil, slice_get, Option, Some, None, MatchOption, suc, take, Bor}
use Rattle.std.proofs.lemmas.Grind.{flat_map-append}
use Rattle.std.specs.Prelude.{IfSome, IsSomeAnd, option_copied}
use Rattle.std.specs.List.{HoldsAt}
use Rattle.std.proofs.lemmas.Option.{slice_get_past, slice_get_read}
use Rattle.std.proofs.lemmas.Grind.{common_steps}
use Rattle.std.proofs.lemmas.Slice.Zip.{AllZip-left, AllZip-right}
use Rattle.edi_line.specs.ZoneData.{ZoneData}
use Rattle.edi_line.specs.Zones.{groups_of}
use Rattle.edi_explain.proofs.Zipped.{zip_push}
use Rattle.edi_explain.specs.Sites.{AreAllSites, IsSiteIfAny, IsSiteOf, IsSiteOfGroup}
use Rattle.edi_explain.specs.declared.site.RecordSite.{RecordSite}
use Rattle.edi_census.specs.Listed.{IsBrokenLine, ListsBroken}
use Rattle.edi_line.specs.declared.broken.BrokenRule.{BrokenRule}
use Rattle.edi_census.specs.inner.Sited.{AreSitesOfFile, HasSitesFor}

-- the lines of one more
pub listed_more : (b name : List ℕ) (broken : List BrokenRule) (it : BrokenRule) (text line : List ℕ) → ListsBroken b name broken text
    → IsBrokenLine b name it line → ListsBroken b name (broken ++ it ∷ []) (text ++ line)
listed_more b name broken it text line (lines, all, is) one = (
  lines ++ line ∷ [],
  zip_push (IsBrokenLine b name) broken lines it line all one,
  ap (λ l. l ++ line) is ∙ sym (flat_map-append (λ (l : List ℕ). l) lines (line ∷ []) ∙ ap (λ l. flat_map (λ (l : List ℕ). l) lines ++ l) (append-nil line)),
)

-- the site at a place among those of all records is that of the record
pub site_known : (zones : List ZoneData) (sites : List RecordSite) (number place : ℕ) (found : Option RecordSite) → number ≡ suc place
    → AreAllSites (groups_of zones) sites → slice_get sites place ≡ found → IsSiteIfAny zones number found
site_known zones sites number place (Some site) e are is =
    some_group (slice_get (groups_of zones) place) refl
    (subst (λ o. MatchOption o (Unit {0}) (λ y. IsSomeAnd (slice_get (groups_of zones) place) (λ x. IsSiteOfGroup x y))) is
    (AllZip-right IsSiteOfGroup (groups_of zones) sites are place))
  where
    some_group : (o : Option (List ZoneData)) → slice_get (groups_of zones) place ≡ o → IsSomeAnd o (λ x. IsSiteOfGroup x site) → IsSiteOf zones number site
    some_group (Some group) at has = record { place = place; group = group; number_is = e; there = at; has_site = has }
    some_group None at has = absurd has
site_known zones sites number place None e are is = λ site at.
    let same : place ≡ at.place = omega (arith, e, at.number_is) in
    let here = subst (λ o. MatchOption o (Unit {0}) (λ x. IsSomeAnd (slice_get sites at.place) (IsSiteOfGroup x))) at.there
    (AllZip-left IsSiteOfGroup (groups_of zones) sites are at.place) in
    none (IsSiteOfGroup at.group) (slice_get sites at.place) (ap (slice_get sites) (sym same) ∙ is) here
  where
    none : (P : RecordSite → Type 0) (o : Option RecordSite) → o ≡ None → IsSomeAnd o P → ⊥
    none P None e has = has
    none P (Some site) e has = cc

-- what a look at a place gives
pub got : {X : Type 0} (result : Option (Bor X)) (xs : List X) (place : ℕ) → MatchOption result (length xs ≤ place) (λ x. (place < length xs) × HoldsAt (λ y. x.now ≡ y) xs place)
    → IfSome result (λ x. x.now ≡ get_or xs place x.now) → slice_get xs place ≡ option_copied result
got (Some x) xs place there is = slice_get_read xs (length xs) place x.now refl there.0 is
got None xs place there is = slice_get_past xs place there

taken : {X : Type 0} (xs : List X) (i : ℕ) (d : X) → i < length xs → take (i + 1) xs ≡ take i xs ++ get_or xs i d ∷ []
taken xs i d lt = grind (arith, common_steps)

-- the lines of one more of a list
pub listed_next : (b name : List ℕ) (broken : List BrokenRule) (i : ℕ) (d : BrokenRule) (sites : List RecordSite) (text new : List ℕ) → i < length broken
    → HasSitesFor b broken sites → ListsBroken b name (take i broken) text
    → ((200 ≤ (get_or broken i d).rule → AreSitesOfFile b sites) → (line : List ℕ) × IsBrokenLine b name (get_or broken i d) line × (new ≡ text ++ line))
    → ListsBroken b name (take (i + 1) broken) new
listed_next b name broken i d sites text new lt sited before one =
    let own = one (sited i d lt) in
    subst (λ l. ListsBroken b name l new) (sym (taken broken i d lt))
    (subst (ListsBroken b name (take i broken ++ get_or broken i d ∷ [])) (sym own.2) (listed_more b name (take i broken) (get_or broken i d) text own.0 before own.1))
