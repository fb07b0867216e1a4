use Rattle.std.proofs.Common.{sym, subst, ◌∙◌}
use Rattle.edi_line.specs.FileBytes.{file_bytes}
use Rattle.edi_compare.specs.Verdicts.{IsVerdict}
use Rattle.edi_pairing.specs.Names.{AreNames, AreNamesOf}
use Rattle.edi_pairing.proofs.CarriedPairs.{carried_pairs}
use Rattle.edi_pairing.proofs.NamesTaken.{names_keep, names_taken}
use Rattle.edi_pairing.proofs.writing.compare_to_file.Goals as goal

pub of-names-requires : goal.of-names-requires
of-names-requires c =
    let h = c.in_ok-verdict.ensures in
    let s = c.args.schema.now in
    let a = file_bytes c.args.a in
    let v = subst (IsVerdict s a (file_bytes c.args.b)) c.in-Same.is h.verdict in
    subst AreNames (sym c.into_vec.ensures) (names_keep s a v.0 c.in_ok-verdict.names v.2 h.of_first h.first c.keeps.ensures.short)

pub of-others-requires : goal.of-others-requires
of-others-requires c =
    let h = c.in_ok-verdict.ensures in
    let s = c.args.schema.now in
    let b = file_bytes c.args.b in
    let v = subst (IsVerdict s (file_bytes c.args.a) b) c.in-Same.is h.verdict in
    subst AreNames (sym c.into_vec-in-Same.ensures) (names_keep s b v.1 c.in_ok-verdict.others v.3 h.of_second h.second c.keeps-2.ensures.short)

pub pairing_text-requires : goal.pairing_text-requires
pairing_text-requires c =
    let h = c.in_ok-verdict.ensures in
    let s = c.args.schema.now in
    let a = file_bytes c.args.a in
    let b = file_bytes c.args.b in
    let v = subst (IsVerdict s a b) c.in-Same.is h.verdict in
    carried_pairs s a b _ _ v.0 v.1 _
    (subst (AreNamesOf a) (sym (c.of-names.ensures ∙ c.into_vec.ensures)) (names_taken s a v.0 c.in_ok-verdict.names v.2 h.of_first))
    (subst (AreNamesOf b) (sym (c.of-others.ensures ∙ c.into_vec-in-Same.ensures)) (names_taken s b v.1 c.in_ok-verdict.others v.3 h.of_second))
    v.2 v.3 v.4

pub returns-in_ok-file-in-Same-clause-compared : goal.returns-in_ok-file-in-Same-clause-compared
returns-in_ok-file-in-Same-clause-compared c =
    let h = c.in_ok-verdict.ensures in
    let s = c.args.schema.now in
    let a = file_bytes c.args.a in
    let b = file_bytes c.args.b in
    let v = subst (IsVerdict s a b) c.in-Same.is h.verdict in
    let are = subst (AreNamesOf a) (sym (c.of-names.ensures ∙ c.into_vec.ensures)) (names_taken s a v.0 c.in_ok-verdict.names v.2 h.of_first) in
    let are' = subst (AreNamesOf b) (sym (c.of-others.ensures ∙ c.into_vec-in-Same.ensures)) (names_taken s b v.1 c.in_ok-verdict.others v.3 h.of_second) in (
      c.in-Same.pairing,
      v,
      record {
        names = c.of-names.result;
        others = c.of-others.result;
        are_names = are;
        are_others = are';
        stated = record {
          is_pairing = carried_pairs s a b _ _ v.0 v.1 c.in-Same.pairing are are' v.2 v.3 v.4;
          is_text = c.in_ok-file-in-Same.ensures;
        };
      },
    )
