-- The bound, marking on need, a flow by itself and the content, of every list of the code's own calls from every opening. Assumes nothing.
use Rattle.std.specs.Prelude.{◌≡◌, List, map, ℕ, ◌+◌, ◌*◌, ◌-◌, ◌<◌, length}
use Rattle.marker_flows.specs.declared.Flows.{Flows}
use Rattle.marker_rules.specs.Terms.{flow_at}
use Rattle.marker_rules.specs.Bucket.{Bucket, million}
use Rattle.marker_rules.specs.Step.{Call}
use Rattle.marker_rules.specs.Told.{Told, of_flow, unmarked_bytes}
use Rattle.marker_rules.specs.Apart.{packet_of}
use Rattle.marker_rules.specs.Content.{Uncut}
use Rattle.marker_rules.specs.Promises.{Keeps}
use Rattle.marker.specs.Words.{Words, Sized, rate_in, held_in, looked_in}
use Rattle.marker.specs.Calls.{open_words}
use Rattle.marker.specs.Machine.{words_after, told_by, in_force}

-- The code's calls with its answers, from an opening.
abbrev pub told_since : Flows → (lent : Words) → List Call → List Told
told_since asked lent cs = told_by (open_words asked lent) cs

-- For every flow the bound and that nothing is marked without need, read off these alone.
abbrev pub Bounds : Type 0
Bounds = (asked : Flows) (lent : Words) → Sized lent → (cs : List Call) → Keeps (in_force asked) (told_since asked lent cs)

-- Two runs in which one flow has the same rate and depth and the same accepted packets give it the same answers.
abbrev pub SameMarkings : Type 0
SameMarkings =
    (asked asked' : Flows) (lent lent' : Words)
    → Sized lent
    → Sized lent'
    → (cs ds : List Call) (f : ℕ)
    → flow_at (in_force asked) f ≡ flow_at (in_force asked') f
    → map packet_of (of_flow f (told_since asked lent cs)) ≡ map packet_of (of_flow f (told_since asked' lent' ds))
    → of_flow f (told_since asked lent cs) ≡ of_flow f (told_since asked' lent' ds)

-- A flow's bucket as the words hold it.
abbrev pub bucket_in : Words → (f : ℕ) → Bucket
bucket_in w f = record { held = held_in w f; looked = looked_in w f }

-- Words w after some calls, and v after these. Where no fill was cut off, what the bucket holds and what was paid since are what it held then and
-- rate times span.
abbrev pub Balances : (w v : Words) → (f : ℕ) → List Told → Type 0
Balances w v f hs = held_in v f + million * unmarked_bytes (of_flow f hs) ≡ held_in w f + rate_in w f * (looked_in v f - looked_in w f)

-- That is so for every flow that was opened.
abbrev pub ContentExact : Type 0
ContentExact =
    (asked : Flows) (lent : Words)
    → Sized lent
    → (before these : List Call) (f : ℕ)
    → f < length (in_force asked).flows
    → Uncut (flow_at (in_force asked) f) (bucket_in (words_after (open_words asked lent) before) f)
    (of_flow f (told_by (words_after (open_words asked lent) before) these))
    → Balances (words_after (open_words asked lent) before) (words_after (words_after (open_words asked lent) before) these) f
    (told_by (words_after (open_words asked lent) before) these)
