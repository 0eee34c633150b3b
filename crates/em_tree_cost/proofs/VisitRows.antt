-- Worked rows: the debts of a visit. All were worked out by hand.
use Rattle.std.specs.Prelude.{◌≡◌, ◌+◌}
use Rattle.std.proofs.Common.{refl}
use Rattle.em_record.specs.Shape.{ShapeNumbers}
use Rattle.em_tree_cost.specs.Parts.{leave_debt, visit_debt}
use Rattle.em_tree_cost.specs.Visits.{arrival_debt, way_debt}

-- the smallest shape: 8 frames in an area
abbrev smallest : ShapeNumbers
smallest = record { block = 128; frames = 64 }

-- At 24 levels the way is 23 thin buffers of 132 moves and 276 moves of searches; before its leaf a visit owes
-- 3741 moves, and 100 after it: 74 fewer than it may.
way_row : way_debt 8 24 24 ≡ 3312
way_row = refl

arrival_row : arrival_debt smallest 24 24 ≡ 167 + 3312 + 237 + 25
arrival_row = refl

visit_row : visit_debt 8 24 ≡ 3841 + 74
visit_row = refl

leave_row : leave_debt 8 24 ≡ 3746 + 95
leave_row = refl

-- over leaves alone there is no way
one_level : way_debt 8 1 1 ≡ 0
one_level = refl

one_arrival : arrival_debt smallest 1 1 ≡ 144 + 0 + 191 + 2
one_arrival = refl
