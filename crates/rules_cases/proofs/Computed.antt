-- Document 01's cases hold, by computation. Assumes nothing.
use mathlib.Core.Path.{refl}
use Rattle.rules.specs.Decide.{first_unmarked, decide}
use Rattle.rules.specs.Step.{step, after, answers}
use Rattle.lists.specs.Rows.{rows}
use Rattle.octets.specs.Octets.{octets_of}
use Rattle.block_check.specs.Sum.{ones_sum, check_of}
use Rattle.block_record.specs.Record.{record_bytes, record_of}
use Rattle.block.specs.Block.{sealed, body_of}
use Rattle.rules_cases.specs.Table.{AllCases}

pub all_cases : AllCases
unfolding answers after step decide first_unmarked ones_sum check_of sealed body_of rows record_bytes record_of octets_of
all_cases = refl
