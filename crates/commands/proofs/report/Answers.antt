-- `commands::report` meets its contract: the row of an allowed code, none for another. Assumes nothing.
use mathlib.Core.List.{[]}
use lib.ListN.{get_or-map}
use Rattle.commands.specs.Beeps.{beep_rows, row_of}
use Rattle.commands.specs.Promises.{beep_at}
use Rattle.commands.proofs.Commanding.{report_row, report_silent}
use Rattle.commands.proofs.report.Goals as goal

pub returns-then-code-gt-BEEP_LIMIT : goal.returns-then-code-gt-BEEP_LIMIT
returns-then-code-gt-BEEP_LIMIT c = report_silent c.if-code-gt-BEEP_LIMIT.true

pub returns : goal.returns
unfolding row_of beep_rows
returns c = rw (c.from.ensures, get_or-map beep_at beep_rows c.args.code []) (report_row c.if-code-gt-BEEP_LIMIT.false)
