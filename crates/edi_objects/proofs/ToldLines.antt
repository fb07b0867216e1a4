-- Where the lines of records stand in the text.
use Rattle.std.proofs.Common.{◌≡◌, ◌≢◌, ◌∙◌, ◌++◌, ℕ, Bool, true, false, List, [], ◌∷◌, Option, Some, None, ap, arith, codes, if◌then◌else◌, length, ne_eqb, refl, subst, sym}
use Rattle.std.specs.List.{flat_map}
use Rattle.edi_record.specs.declared.record.Kind.{Kind}
use Rattle.edi_record.specs.declared.record.Kind.TheVariants.{Pno, Par, Pfe, Fea, Lnk}
use Rattle.edi_plan.specs.Places.{places_of}
use Rattle.edi_plan.specs.Plans.{PlanData, IsPlace, record_at}
use Rattle.edi_plan.proofs.PlaceLemmas.{has_place}
use Rattle.edi_line.specs.Bytes.{line_feed}
use Rattle.edi_report.specs.Lines.{charsets_line, totals_line, words_text}
use Rattle.edi_report.specs.Reports.{Report, parts_at}
use Rattle.edi_report.specs.declared.parts.DifferingParts.{DifferingParts}
use Rattle.edi_report.specs.declared.sheet.LocatedSheet.{LocatedSheet}
use Rattle.edi_objects.specs.Accounts.{account_text, bare_link, bare_link_by, bare_links, first_bare_link, objects_of, record_line_text, second_bare_link, shapes_of}
use Rattle.edi_objects.specs.Counts.{class_totals}
use Rattle.edi_objects.specs.Differing.{arrives, became_of, is_differing, same_of}
use Rattle.edi_objects.specs.Elements.{elements_of, first_element, line_of_element, lone_element, others_text, second_element}
use Rattle.edi_objects.specs.LinksOf.{links_of}
use Rattle.edi_objects.specs.Names.{Naming, shown_class}
use Rattle.edi_objects.specs.Objects.{differing_link, first_link, first_object, link_text, object_block, object_by, object_header, object_lines, outline_lines, own_lines, second_link, second_object}
use Rattle.edi_objects.specs.Telling.{AreLinesOf, AreWholeLines, FirstHasLines, IsLinkOf, IsToldByFirst, IsToldBySecond, SecondHasLines, first_account_by, second_account_by}
use Rattle.edi_objects.proofs.LinkEntries.{each_link}
use Rattle.edi_objects.proofs.TextLines.{both_none, either_said, else_said, if_said, lines_at, lines_each, lines_fourth, lines_left, lines_right, lines_second, lines_third, text_there, whole_append, whole_flat}
use Rattle.edi_objects.proofs.WholeTexts.{charsets_whole, elements_whole, first_bare_whole, first_element_whole, first_link_whole, first_links_whole, first_object_whole, objects_whole, own_whole, second_bare_whole, second_element_whole, second_link_whole, second_object_whole, shapes_whole}

-- the lines of the record at a place, among those of the records of its type
at_place : (f : ℕ → List ℕ) → ((k : ℕ) → AreWholeLines (f k)) → (kind : Kind) (p : PlanData) (k : ℕ) → IsPlace p k → (record_at p k).kind ≡ kind → f k ≢ [] → AreLinesOf (flat_map f (places_of kind p)) (f k)
at_place f whole kind p k there is some =
    let found = has_place kind p k there is in
    subst (λ (x : ℕ). AreLinesOf (flat_map f (places_of kind p)) (f x)) found.2 (lines_at f whole (places_of kind p) found.0 0 found.1 (λ e. some (ap f (sym found.2) ∙ e)))

module _ (n : Naming) (r : Report) where
  -- ---- parts of the text

  in_objects : (lines : List ℕ) → AreLinesOf (objects_of n r) lines → AreLinesOf (account_text n r) lines
  in_objects lines l = lines_second (charsets_line r) (objects_of n r) (shapes_of n r) (bare_links n r) (class_totals n r) (codes "records: ") (totals_line r) lines (charsets_whole n r) l

  two_whole : AreWholeLines (charsets_line r ++ objects_of n r)
  two_whole = whole_append (charsets_line r) (objects_of n r) (charsets_whole n r) (objects_whole n r)

  in_shapes : (lines : List ℕ) → AreLinesOf (shapes_of n r) lines → AreLinesOf (account_text n r) lines
  in_shapes lines l = lines_third (charsets_line r) (objects_of n r) (shapes_of n r) (bare_links n r) (class_totals n r) (codes "records: ") (totals_line r) lines two_whole l

  in_bare : (lines : List ℕ) → AreLinesOf (bare_links n r) lines → AreLinesOf (account_text n r) lines
  in_bare lines l = lines_fourth (charsets_line r) (objects_of n r) (shapes_of n r) (bare_links n r) (class_totals n r) (codes "records: ") (totals_line r) lines
      (whole_append (charsets_line r ++ objects_of n r) (shapes_of n r) two_whole (shapes_whole n r)) l

  in_faces : (lines : List ℕ) → AreLinesOf (elements_of n r Pfe) lines → AreLinesOf (account_text n r) lines
  in_faces lines l = in_shapes lines (lines_left (elements_of n r Pfe ++ elements_of n r Par) (elements_of n r Pno) lines (lines_left (elements_of n r Pfe) (elements_of n r Par) lines l))

  in_arcs : (lines : List ℕ) → AreLinesOf (elements_of n r Par) lines → AreLinesOf (account_text n r) lines
  in_arcs lines l = in_shapes lines (lines_left (elements_of n r Pfe ++ elements_of n r Par) (elements_of n r Pno) lines
      (lines_right (elements_of n r Pfe) (elements_of n r Par) lines (elements_whole n r Pfe) l))

  in_nodes : (lines : List ℕ) → AreLinesOf (elements_of n r Pno) lines → AreLinesOf (account_text n r) lines
  in_nodes lines l = in_shapes lines (lines_right (elements_of n r Pfe ++ elements_of n r Par) (elements_of n r Pno) lines
      (whole_append (elements_of n r Pfe) (elements_of n r Par) (elements_whole n r Pfe) (elements_whole n r Par)) l)

  -- ---- a record of the first sheet

  element_here : (kind : Kind) (i : ℕ) → IsPlace r.first.accepted i → (record_at r.first.accepted i).kind ≡ kind → first_element n r i ≢ [] → AreLinesOf (elements_of n r kind) (first_element n r i)
  element_here kind i there is some = lines_left (flat_map (first_element n r) (places_of kind r.first.accepted)) (flat_map (second_element n r) (places_of kind r.second.accepted)) (first_element n r i)
      (at_place (first_element n r) (first_element_whole n r) kind r.first.accepted i there is some)

  object_here : (i : ℕ) → IsPlace r.first.accepted i → (record_at r.first.accepted i).kind ≡ Fea → first_object n r i ≢ [] → AreLinesOf (objects_of n r) (first_object n r i)
  object_here i there is some = lines_left (flat_map (first_object n r) (places_of Fea r.first.accepted)) (flat_map (second_object n r) (places_of Fea r.second.accepted)) (first_object n r i)
      (at_place (first_object n r) (first_object_whole n r) Fea r.first.accepted i there is some)

  link_here : (i : ℕ) → IsPlace r.first.accepted i → (record_at r.first.accepted i).kind ≡ Lnk → first_bare_link n r i ≢ [] → AreLinesOf (bare_links n r) (first_bare_link n r i)
  link_here i there is some = lines_left (flat_map (first_bare_link n r) (places_of Lnk r.first.accepted)) (flat_map (second_bare_link n r) (places_of Lnk r.second.accepted)) (first_bare_link n r i)
      (at_place (first_bare_link n r) (first_bare_whole n r) Lnk r.first.accepted i there is some)

  first_stands_by : (i : ℕ) → IsPlace r.first.accepted i → (kind : Kind) → (record_at r.first.accepted i).kind ≡ kind → first_account_by kind n r i ≢ [] → AreLinesOf (account_text n r) (first_account_by kind n r i)
  first_stands_by i there Pno is some = in_nodes (first_element n r i) (element_here Pno i there is some)
  first_stands_by i there Par is some = in_arcs (first_element n r i) (element_here Par i there is some)
  first_stands_by i there Pfe is some = in_faces (first_element n r i) (element_here Pfe i there is some)
  first_stands_by i there Fea is some = in_objects (first_object n r i) (object_here i there is some)
  first_stands_by i there Lnk is some = in_bare (first_bare_link n r i) (link_here i there is some)

  -- a record of the first sheet of which the text says something has its lines there
  pub first_stands : (i : ℕ) → IsPlace r.first.accepted i → (kind : Kind) → (record_at r.first.accepted i).kind ≡ kind → first_account_by kind n r i ≢ [] → FirstHasLines n r i
  first_stands i there kind is some = subst (λ (k : Kind). AreLinesOf (account_text n r) (first_account_by k n r i)) (sym is) (first_stands_by i there kind is some)

  -- ---- a record of the second sheet

  element_there : (kind : Kind) (j : ℕ) → IsPlace r.second.accepted j → (record_at r.second.accepted j).kind ≡ kind → second_element n r j ≢ [] → AreLinesOf (elements_of n r kind) (second_element n r j)
  element_there kind j there is some = lines_right (flat_map (first_element n r) (places_of kind r.first.accepted)) (flat_map (second_element n r) (places_of kind r.second.accepted)) (second_element n r j)
      (whole_flat (first_element n r) (first_element_whole n r) (places_of kind r.first.accepted))
      (at_place (second_element n r) (second_element_whole n r) kind r.second.accepted j there is some)

  object_there : (j : ℕ) → IsPlace r.second.accepted j → (record_at r.second.accepted j).kind ≡ Fea → second_object n r j ≢ [] → AreLinesOf (objects_of n r) (second_object n r j)
  object_there j there is some = lines_right (flat_map (first_object n r) (places_of Fea r.first.accepted)) (flat_map (second_object n r) (places_of Fea r.second.accepted)) (second_object n r j)
      (whole_flat (first_object n r) (first_object_whole n r) (places_of Fea r.first.accepted))
      (at_place (second_object n r) (second_object_whole n r) Fea r.second.accepted j there is some)

  link_there : (j : ℕ) → IsPlace r.second.accepted j → (record_at r.second.accepted j).kind ≡ Lnk → second_bare_link n r j ≢ [] → AreLinesOf (bare_links n r) (second_bare_link n r j)
  link_there j there is some = lines_right (flat_map (first_bare_link n r) (places_of Lnk r.first.accepted)) (flat_map (second_bare_link n r) (places_of Lnk r.second.accepted)) (second_bare_link n r j)
      (whole_flat (first_bare_link n r) (first_bare_whole n r) (places_of Lnk r.first.accepted))
      (at_place (second_bare_link n r) (second_bare_whole n r) Lnk r.second.accepted j there is some)

  second_stands_by : (j : ℕ) → IsPlace r.second.accepted j → (kind : Kind) → (record_at r.second.accepted j).kind ≡ kind → second_account_by kind n r j ≢ [] → AreLinesOf (account_text n r) (second_account_by kind n r j)
  second_stands_by j there Pno is some = in_nodes (second_element n r j) (element_there Pno j there is some)
  second_stands_by j there Par is some = in_arcs (second_element n r j) (element_there Par j there is some)
  second_stands_by j there Pfe is some = in_faces (second_element n r j) (element_there Pfe j there is some)
  second_stands_by j there Fea is some = in_objects (second_object n r j) (object_there j there is some)
  second_stands_by j there Lnk is some = in_bare (second_bare_link n r j) (link_there j there is some)

  -- and so has one of the second
  pub second_stands : (j : ℕ) → IsPlace r.second.accepted j → (kind : Kind) → (record_at r.second.accepted j).kind ≡ kind → second_account_by kind n r j ≢ [] → SecondHasLines n r j
  second_stands j there kind is some = subst (λ (k : Kind). AreLinesOf (account_text n r) (second_account_by k n r j)) (sym is) (second_stands_by j there kind is some)

  -- ---- what is never empty

  line_said : (i : ℕ) (went : Option ℕ) → line_of_element n r i went ≢ []
  line_said i None none = cc
  line_said i (Some j) none = cc

  pub element_said : (i : ℕ) (differs : Bool) (went : Option ℕ) → differs ≡ true → (if differs then line_of_element n r i went else []) ≢ []
  element_said i differs went e = if_said differs (line_of_element n r i went) [] e (line_said i went)

  pub lone_said : (sheet : LocatedSheet) (k : ℕ) → lone_element (codes "- ") n sheet k ≢ []
  lone_said sheet k none = cc

  pub new_said : (sheet : LocatedSheet) (k : ℕ) (reached : Bool) → reached ≡ false → (if reached then [] else lone_element (codes "+ ") n sheet k) ≢ []
  new_said sheet k reached e = else_said reached [] (lone_element (codes "+ ") n sheet k) e (λ none. cc)

  bare_by_said : (i : ℕ) (went : Option ℕ) → bare_link_by n r i went ≢ []
  bare_by_said i None none = cc
  bare_by_said i (Some j) none = cc

  pub bare_said : (i : ℕ) (differs beside : Bool) (went : Option ℕ) → differs ≡ true → beside ≡ false → (if differs then (if beside then [] else bare_link_by n r i went) else []) ≢ []
  bare_said i differs beside went d e =
      if_said differs (if beside then [] else bare_link_by n r i went) [] d (else_said beside [] (bare_link_by n r i went) e (bare_by_said i went))

  pub new_bare_said : (j : ℕ) (told : Bool) → told ≡ false → (if told then [] else codes "+ " ++ bare_link n r.second j ++ record_line_text r.second j) ≢ []
  new_bare_said j told e = else_said told [] (codes "+ " ++ bare_link n r.second j ++ record_line_text r.second j) e (λ none. cc)

  pub differing_said : (i link : ℕ) (went : Option ℕ) (parts : DifferingParts) → differing_link n r i link went parts ≢ []
  differing_said i link None parts none = cc
  differing_said i link (Some k) parts none =
      either_said parts.ends (link_text (codes "    - ") n r i link ++ line_feed ∷ []) (link_text (codes "    ~ ") n r i link ++ codes ":" ++ words_text parts ++ line_feed ∷ [])
      (λ e. cc) (λ e. cc) none

  pub second_link_said : (j link : ℕ) → arrives r link ≡ true → second_link n r j link ≢ []
  second_link_said j link new = if_said (arrives r link)
      (codes "    + " ++ shown_class n.classes (record_at r.second.accepted link).class ++ codes ":" ++ others_text n r.second (Some j) (record_at r.second.accepted link) ++ line_feed ∷ []) []
      new (λ none. cc)

  header_said : (i j : ℕ) → object_header n r i j ≢ []
  header_said i j none = cc

  pub block_is : (i j : ℕ) (lines : List ℕ) → lines ≢ [] → object_block n r i j lines ≡ object_header n r i j ++ lines
  block_is i j [] some = absurd (some refl)
  block_is i j (x ∷ xs) some = ap (λ (b : Bool). if b then [] else object_header n r i j ++ (x ∷ xs)) (ne_eqb (length (x ∷ xs)) 0 (λ e. omega (arith, e)))

  pub block_said : (i j : ℕ) (lines : List ℕ) → lines ≢ [] → object_block n r i j lines ≢ []
  block_said i j lines some none = header_said i j (both_none (object_header n r i j) lines (sym (block_is i j lines some) ∙ none)).0

  pub object_said : (i j : ℕ) → became_of r i ≡ Some j → object_lines n r i j ≢ [] → first_object n r i ≢ []
  object_said i j went some none = block_said i j (object_lines n r i j) some (sym (ap (object_by n r i) went) ∙ none)

  -- ---- links among the lines of objects

  -- a link that differs is told by each object that it names and that is or became one of the second sheet
  pub told_by_first : (link object target : ℕ) → IsLinkOf r.first.accepted object link → (record_at r.first.accepted object).kind ≡ Fea → IsPlace r.first.accepted object → became_of r object ≡ Some target
      → is_differing r link ≡ true → IsToldByFirst n r link object
  told_by_first link object target names is_object there went differs =
      record { names = names; is_object = is_object; target = target; went = went; among = among; stands = first_stands object there Fea is_object (object_said object target went (text_there (object_lines n r object target) line among)) }
    where
      line : List ℕ
      line = differing_link n r object link (became_of r link) (parts_at r.parts link)

      own : List ℕ
      own = own_lines n r object target (same_of r object)

      firsts : List ℕ
      firsts = flat_map (first_link n r object) (links_of r.first.accepted object)

      seconds : List ℕ
      seconds = flat_map (second_link n r target) (links_of r.second.accepted target)

      line_is : first_link n r object link ≡ line
      line_is = ap (λ (b : Bool). if b then line else outline_lines n r link) differs

      in_firsts : AreLinesOf firsts (first_link n r object link)
      in_firsts = each_link r.first.accepted object (λ (x : ℕ). first_link n r object x ≢ [] → AreLinesOf firsts (first_link n r object x))
          (lines_each (first_link n r object) (first_link_whole n r object) (links_of r.first.accepted object)) link names
          (λ e. differing_said object link (became_of r link) (parts_at r.parts link) (sym line_is ∙ e))

      among : AreLinesOf (object_lines n r object target) line
      among = lines_left (own ++ firsts) seconds line (lines_right own firsts line (own_whole n r object target) (subst (λ (x : List ℕ). AreLinesOf firsts x) line_is in_firsts))

  -- a link that is new, or got other ends, by each that it names and that one of the first sheet is or became
  pub told_by_second : (link object source : ℕ) → IsLinkOf r.second.accepted object link → (record_at r.second.accepted object).kind ≡ Fea → IsPlace r.first.accepted source
      → (record_at r.first.accepted source).kind ≡ Fea → became_of r source ≡ Some object → arrives r link ≡ true → IsToldBySecond n r link object
  told_by_second link object source names is_object there was_object went new =
      record { names = names; is_object = is_object; source = source; went = went; among = among; stands = first_stands source there Fea was_object (object_said source object went (text_there (object_lines n r source object) line among)) }
    where
      line : List ℕ
      line = second_link n r object link

      own : List ℕ
      own = own_lines n r source object (same_of r source)

      firsts : List ℕ
      firsts = flat_map (first_link n r source) (links_of r.first.accepted source)

      seconds : List ℕ
      seconds = flat_map (second_link n r object) (links_of r.second.accepted object)

      in_seconds : AreLinesOf seconds line
      in_seconds = each_link r.second.accepted object (λ (x : ℕ). second_link n r object x ≢ [] → AreLinesOf seconds (second_link n r object x))
          (lines_each (second_link n r object) (second_link_whole n r object) (links_of r.second.accepted object)) link names (second_link_said object link new)

      among : AreLinesOf (object_lines n r source object) line
      among = lines_right (own ++ firsts) seconds line (whole_append own firsts (own_whole n r source object) (first_links_whole n r source)) in_seconds
