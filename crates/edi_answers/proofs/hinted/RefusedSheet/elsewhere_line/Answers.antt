use Rattle.std.proofs.Common.{◌≡◌, ◌∙◌, Bool, true, false, inl, inr, ap₂, arith, drop, subst, suc, sym, take}
use Rattle.std.specs.Bool.{MatchBool}
use Rattle.std.specs.List.{All}
use Rattle.std.proofs.lemmas.List.Elements.{All-push}
use Rattle.std.proofs.lemmas.Result.{IfOk-weaker}
use Rattle.edi_record.specs.Texts.{shown}
use Rattle.edi_explain.specs.Elsewhere.{elsewhere_line}
use Rattle.edi_answers.specs.Effects.{inputs}
use Rattle.edi_answers.specs.Hinted.{LacksRecord}
use Rattle.edi_answers.proofs.Answering.{all_paths, one_more_path, paths_of, split_at_path}
use Rattle.edi_answers.proofs.hinted.RefusedSheet.elsewhere_line.Goals as goal

-- what a test says by its answer
has_by : (t : Bool) (X Y : Type 0) → t ≡ true → MatchBool t X Y → X
has_by true X Y e h = h
has_by false X Y e h = absurd cc

lacks_by : (t : Bool) (X Y : Type 0) → t ≡ false → MatchBool t X Y → Y
lacks_by true X Y e h = absurd cc
lacks_by false X Y e h = h

pub returns-then-branch : goal.returns-then-branch
returns-then-branch g c =
    let siblings = c.args.self.now.siblings.now in
    let i = c.loop-other.other-index in
    IfOk-weaker c.elsewhere_hint.result _ _ (λ line h. inl (
      paths_of (take i siblings),
      paths_of (drop (suc i) siblings),
      _,
      split_at_path siblings i _ c.loop-other-test.true,
      c.loop-other.invariant,
      has_by c.in_ok-has_record.field-0 _ _ c.if-branch.true c.in_ok-has_record.ensures,
      h ∙ ap₂ (λ name other. elsewhere_line name (shown c.args.pointer) other) c.as_bytes.ensures.value c.as_bytes-then-branch.ensures.value,
    )) c.elsewhere_hint.ensures

pub loop-other-preserved : goal.loop-other-preserved
loop-other-preserved g c =
    let siblings = c.args.self.now.siblings.now in
    let i = c.loop-other.other-index in
    let lacks = LacksRecord (inputs g.F.Folder g.F.Reader.ByteIn c.args.self.now.folder.now) c.args.self.now.path.now (shown c.args.pointer) in
    subst (All lacks) (sym (one_more_path siblings i _ c.loop-other-test.true))
    (All-push lacks (paths_of (take i siblings)) _ c.loop-other.invariant (lacks_by c.in_ok-has_record.field-0 _ _ c.if-branch.false c.in_ok-has_record.ensures))

pub returns : goal.returns
returns g c =
    let lacks = LacksRecord (inputs g.F.Folder g.F.Reader.ByteIn c.args.self.now.folder.now) c.args.self.now.path.now (shown c.args.pointer) in
    inr (subst (All lacks) (all_paths c.args.self.now.siblings.now c.loop-other.other-index (omega arith)) c.loop-other.invariant, c.new.ensures.items)
