use Rattle.edi_plan.proofs.Spans.{more_numbers}
use Rattle.edi_plan.proofs.extent.Span.with_number.Goals as goal

pub returns : goal.returns
returns c = λ numbers h.
    more_numbers numbers c.args.self c.args.number (record { least = c.lesser.result; greatest = c.greater.result }) h
    c.lesser.ensures.one c.lesser.ensures.first c.lesser.ensures.second c.greater.ensures.one c.greater.ensures.first c.greater.ensures.second
