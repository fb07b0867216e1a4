use Rattle.edi_census.proofs.LineOrRecord.{first_of_lines, lines_hold_at, none_first}
use Rattle.edi_census.proofs.listing.sites_for.Goals as goal
use Rattle.edi_census.proofs.listing.sites_for.Goals.{in_default-via-in-Some+else-it-ge-FIRST_OF_RECORDS, in_default-via-in_default}

pub sites_of_all-requires : goal.sites_of_all-requires
sites_of_all-requires c =
    lines_hold_at c.args.schema.now c.args.bytes.now c.args.broken.now c.requires c.in-Some.it.now c.in-Some.ensures.value c.if-it-ge-FIRST_OF_RECORDS.true

pub returns-in_default : goal.returns-in_default
returns-in_default c = λ k d lt high. elim c.in_default.branch [
  | in_default-via-in-Some+else-it-ge-FIRST_OF_RECORDS w ↦ absurd (first_of_lines c.args.schema.now c.args.bytes.now c.args.broken.now c.requires w.in-Some.it.now w.in-Some.ensures.value w.if-it-ge-FIRST_OF_RECORDS.false k d lt high)
  | in_default-via-in_default w ↦ absurd (none_first c.args.broken.now k w.in_default.ensures.value lt)
]
