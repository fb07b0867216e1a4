use Rattle.std.proofs.Common.{◌∙◌, ◌++◌, ◌≤◌, List, ℕ, length, take, sym, ap₂, subst}
use Rattle.edi_plan.proofs.Built.{plans_agreeing}
use Rattle.edi_compare.specs.Verdicts.{IsFirstDifference}
use Rattle.edi_compare.proofs.Compared.{different, counts, paired_same}
use Rattle.edi_compare.proofs.Forms.{form_behind}
use Rattle.edi_compare.proofs.comparing.verdict_of.Goals as goal

pub write_canon_behind-requires : goal.write_canon_behind-requires
write_canon_behind-requires c =
    let states = c.requires.held.3 in record {
      agrees = plans_agreeing c.args.schema.now states.0 c.args.sound.now states.2;
      labels = c.requires.labels;
    }

pub first_difference-requires : goal.first_difference-requires
first_difference-requires c =
    subst (λ (file : List ℕ). c.in_ok-front.field-0.front ≤ length file) (c.deref.ensures.value ∙ sym c.deref-4.ensures.value) c.in_ok-front.ensures.within

pub pairing_by_numbers-requires : goal.pairing_by_numbers-requires
pairing_by_numbers-requires c =
    let s = c.args.schema.now in
    let file = c.args.first.now.file.items in
    let rest = c.in_ok-front.field-0.rest.items in
    let front = c.in_ok-front.field-0.front in
    let second = take front file ++ rest in
    let other = form_behind s c.args.sound.now c.args.labels.now file rest c.deref.result.now c.deref-2.result.now c.deref-3.result.now front c.keeps.ensures
    c.deref.ensures.value c.deref-2.ensures.value c.deref-3.ensures.value c.hold_bytes.ensures.bytes c.hold_bytes-2.ensures.bytes c.requires.held c.requires.labels c.in_ok-front.ensures.written in
    let equal = sym c.deref-4.ensures.value ∙ (c.in-None.ensures ∙ ap₂ (λ (x y : List ℕ). take front x ++ y) c.deref-4.ensures.value c.deref-5.ensures.value) in
    counts s c.keeps.ensures c.requires.first.0 c.args.sound.now c.args.first.now c.args.labels.now second c.requires.first.1 other equal

pub returns-in-Some : goal.returns-in-Some
returns-in-Some c p untouched =
    let s = c.args.schema.now in
    let file = c.args.first.now.file.items in
    let rest = c.in_ok-front.field-0.rest.items in
    let front = c.in_ok-front.field-0.front in
    let second = take front file ++ rest in
    let other = form_behind s c.args.sound.now c.args.labels.now file rest c.deref.result.now c.deref-2.result.now c.deref-3.result.now front c.keeps.ensures
    c.deref.ensures.value c.deref-2.ensures.value c.deref-3.ensures.value c.hold_bytes.ensures.bytes c.hold_bytes-2.ensures.bytes c.requires.held c.requires.labels c.in_ok-front.ensures.written in
    different s c.keeps.ensures p c.args.sound.now c.args.first.now c.args.labels.now second untouched other c.in-Some.line
    (subst (λ (x : List ℕ). IsFirstDifference file (take front file ++ x) c.in-Some.line) c.deref-5.ensures.value
    (subst (λ (x : List ℕ). IsFirstDifference x (take front x ++ c.deref-5.result.now) c.in-Some.line) c.deref-4.ensures.value c.in-Some.ensures))

pub returns : goal.returns
returns c p untouched =
    let s = c.args.schema.now in
    let file = c.args.first.now.file.items in
    let rest = c.in_ok-front.field-0.rest.items in
    let front = c.in_ok-front.field-0.front in
    let second = take front file ++ rest in
    let other = form_behind s c.args.sound.now c.args.labels.now file rest c.deref.result.now c.deref-2.result.now c.deref-3.result.now front c.keeps.ensures
    c.deref.ensures.value c.deref-2.ensures.value c.deref-3.ensures.value c.hold_bytes.ensures.bytes c.hold_bytes-2.ensures.bytes c.requires.held c.requires.labels c.in_ok-front.ensures.written in
    let equal = sym c.deref-4.ensures.value ∙ (c.in-None.ensures ∙ ap₂ (λ (x y : List ℕ). take front x ++ y) c.deref-4.ensures.value c.deref-5.ensures.value) in
    paired_same s c.keeps.ensures p c.args.sound.now c.args.first.now c.args.labels.now second untouched other equal c.in_ok-pairing_by_numbers-in-None.field-0 c.in_ok-pairing_by_numbers-in-None.ensures
