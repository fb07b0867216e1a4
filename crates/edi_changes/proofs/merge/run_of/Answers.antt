use Rattle.std.proofs.Common.{◌≡◌, ◌∙◌, drop, sym, ap, subst, take}
use Rattle.std.specs.List.{AllByRecursion}
use Rattle.std.specs.declared.cmp.Ordering.TheVariants.{Less}
use Rattle.edi_record.specs.Orders.{bytes_cmp}
use Rattle.edi_changes.specs.declared.entry.Entry.{Entry}
use Rattle.edi_changes.proofs.Orders.{behind_is, run_is}
use Rattle.edi_changes.proofs.merge.run_of.Goals as goal

pub returns-clause-run : goal.returns-clause-run
returns-clause-run c =
    subst (AllByRecursion (λ (e : Entry). e.subject ≡ c.args.subject.now)) (sym (c.split_at.ensures.front ∙ ap (λ n. take n c.args.entries.now) c.run_length.ensures.value))
    (run_is c.args.subject.now c.args.entries.now)

pub returns-clause-behind : goal.returns-clause-behind
returns-clause-behind c =
    subst (AllByRecursion (λ (e : Entry). bytes_cmp c.args.subject.now e.subject ≡ Less)) (sym (c.split_at.ensures.back ∙ ap (λ n. drop n c.args.entries.now) c.run_length.ensures.value))
    (behind_is c.args.subject.now c.args.entries.now c.requires.rises c.requires.from)
