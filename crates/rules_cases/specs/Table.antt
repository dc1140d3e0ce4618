-- Document 01's printed case and its cases P1 to P10, as one table under a single statement. Assumes nothing.
use Rattle.std.specs.Prelude.{◌≡◌, List, [], ◌∷◌, ◌++◌, map, ℕ}
use Rattle.units.specs.declared.Settings.{Settings}
use Rattle.units.specs.declared.Marking.TheVariants as marking
use Rattle.units.specs.Time.{transmission_time}
use Rattle.block_check.specs.Sum.{ones_sum, check_of}
use Rattle.block_record.specs.declared.Event.TheVariants.{Unmarked}
use Rattle.block.specs.Block.{block_bytes}
use Rattle.rules.specs.Terms.{terms_of}
use Rattle.rules.specs.Line.{fresh}
use Rattle.rules.specs.Step.{Call, arrive, advance, after, answers}
use Rattle.rules.specs.Printed.{line_of, tally_line}

-- Alpha 100, 1 tick per byte.
abbrev pub settings : Settings
settings = record { alpha = record { 0 = 100 }; ticks_per_byte = 1 }

abbrev pub u : (len t : ℕ) → Call
u len t = arrive marking.Unmarked len 0 t

abbrev pub m : (len t : ℕ) → Call
m len t = arrive marking.Marked len 0 t

abbrev pub a : (t : ℕ) → Call
a t = advance t

-- What a list of calls prints.
abbrev pub printed : List Call → List (List ℕ)
printed cs = map line_of (answers (terms_of settings) fresh cs)

pub record Case : Type 0 where
  pub got : List (List ℕ)
  pub wanted : List (List ℕ)

abbrev pub case : List (List ℕ) → List (List ℕ) → Case
case got wanted = record { got = got; wanted = wanted }

abbrev pub printed_calls : List Call
printed_calls =
    u 50 0 ∷ m 60 0 ∷ u 40 0 ∷ a 0 ∷ a 50 ∷ m 45 60 ∷ u 30 70 ∷ u 10 125 ∷ a 110 ∷ a 150 ∷ m 101 160 ∷ u 20 160 ∷ a 170 ∷ m 30 165 ∷ []

abbrev pub table : List Case
table =
    -- the printed case
    case (printed printed_calls ++ tally_line (after (terms_of settings) fresh printed_calls).tallies ∷ [])
    (
    (65 ∷ 1 ∷ 0 ∷ [])
    ∷ (77 ∷ 2 ∷ [])
    ∷ (65 ∷ 3 ∷ 0 ∷ [])
    ∷ (83 ∷ 1 ∷ 0 ∷ 0 ∷ 0 ∷ [])
    ∷ (83 ∷ 2 ∷ 50 ∷ 0 ∷ 0 ∷ [])
    ∷ (77 ∷ 4 ∷ [])
    ∷ (65 ∷ 5 ∷ 60 ∷ [])
    ∷ (82 ∷ 5 ∷ [])
    ∷ (83 ∷ 3 ∷ 110 ∷ 60 ∷ 0 ∷ [])
    ∷ (83 ∷ 5 ∷ 150 ∷ 60 ∷ 1 ∷ [])
    ∷ (82 ∷ 4 ∷ [])
    ∷ (65 ∷ 6 ∷ 20 ∷ [])
    ∷ (78 ∷ [])
    ∷ (82 ∷ 3 ∷ [])
    ∷ (84 ∷ 4 ∷ 2 ∷ 3 ∷ 1 ∷ 1 ∷ [])
    ∷ []
    )
    -- P1: length 2,048 at 64 ticks per byte
    ∷ case ((transmission_time (record { alpha = record { 0 = 100 }; ticks_per_byte = 64 }) 2_048 ∷ []) ∷ []) ((131_072 ∷ []) ∷ [])
    -- P2: lengths 0 and 2,049
    ∷ case (printed (u 0 0 ∷ u 2_049 0 ∷ [])) ((82 ∷ 1 ∷ []) ∷ (82 ∷ 1 ∷ []) ∷ [])
    -- P3 and P4: a marked packet of alpha's length, and one byte longer
    ∷ case (printed (m 100 0 ∷ [])) ((77 ∷ 1 ∷ []) ∷ [])
    ∷ case (printed (m 101 0 ∷ [])) ((82 ∷ 4 ∷ []) ∷ [])
    -- P5: extra delay 70
    ∷ case (printed (m 100 0 ∷ a 0 ∷ u 20 30 ∷ [])) ((77 ∷ 1 ∷ []) ∷ (83 ∷ 1 ∷ 0 ∷ 0 ∷ 0 ∷ []) ∷ (65 ∷ 2 ∷ 70 ∷ []) ∷ [])
    -- P6: 31 bytes do not fit; P7: 30 do, and the extra delay of 3 is then 100
    ∷ case (printed (m 100 0 ∷ a 0 ∷ m 31 20 ∷ u 20 30 ∷ a 100 ∷ []))
    ((77 ∷ 1 ∷ []) ∷ (83 ∷ 1 ∷ 0 ∷ 0 ∷ 0 ∷ []) ∷ (77 ∷ 2 ∷ []) ∷ (65 ∷ 3 ∷ 70 ∷ []) ∷ (83 ∷ 3 ∷ 100 ∷ 70 ∷ 1 ∷ []) ∷ [])
    ∷ case (printed (m 100 0 ∷ a 0 ∷ m 30 20 ∷ u 20 30 ∷ a 100 ∷ a 130 ∷ []))
    (
    (77 ∷ 1 ∷ [])
    ∷ (83 ∷ 1 ∷ 0 ∷ 0 ∷ 0 ∷ [])
    ∷ (77 ∷ 2 ∷ [])
    ∷ (65 ∷ 3 ∷ 70 ∷ [])
    ∷ (83 ∷ 2 ∷ 100 ∷ 0 ∷ 0 ∷ [])
    ∷ (83 ∷ 3 ∷ 130 ∷ 100 ∷ 0 ∷ [])
    ∷ []
    )
    -- P8: extra delay 30
    ∷ case (printed (u 10 0 ∷ a 0 ∷ m 30 5 ∷ a 10 ∷ u 10 10 ∷ []))
    ((65 ∷ 1 ∷ 0 ∷ []) ∷ (83 ∷ 1 ∷ 0 ∷ 0 ∷ 0 ∷ []) ∷ (77 ∷ 2 ∷ []) ∷ (83 ∷ 2 ∷ 10 ∷ 0 ∷ 0 ∷ []) ∷ (65 ∷ 3 ∷ 30 ∷ []) ∷ [])
    -- P9: the sum of four words
    ∷ case ((ones_sum 0 (0x00 ∷ 0x01 ∷ 0xf2 ∷ 0x03 ∷ 0xf4 ∷ 0xf5 ∷ 0xf6 ∷ 0xf7 ∷ []) ∷ []) ∷ []) ((0xddf2 ∷ []) ∷ [])
    -- P10: the check of one block that holds only u50@0 at place 0
    ∷ case ((check_of (block_bytes settings 0 1 (λ k. Unmarked (record { 0 = 0 }) (record { 0 = 50 }) 0)) ∷ []) ∷ []) ((0xfd67 ∷ []) ∷ [])
    ∷ []

-- Each case gives what document 01 says.
abbrev pub AllCases : Type 0
AllCases = map (λ (c : Case). c.got) table ≡ map (λ (c : Case). c.wanted) table
