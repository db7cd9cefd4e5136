use Rattle.survey_text.proofs.report.ReportDisplay.fmt.Goals as goal

pub returns-clause-writes : goal.returns-clause-writes
returns-clause-writes g c plain ok = rw (← c.as_slice.ensures.value, ← c.as_slice-2.ensures.value) (c.write.ensures.writes plain ok)
