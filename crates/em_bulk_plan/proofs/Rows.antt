-- Worked rows: plans and shares. All were worked out by hand.
use Rattle.std.proofs.Common.{◌≡◌, [], ◌∷◌, refl}
use Rattle.em_record.specs.Shape.{ShapeNumbers}
use Rattle.em_bulk_plan.specs.Moves.{builder_share}
use Rattle.em_bulk_plan.specs.Plan.{builder_plan, node_plan}

-- the smallest shape: fan-out 16, and a load of 1024 records
abbrev smallest : ShapeNumbers
smallest = record { block = 128; frames = 64 }

-- no record, and one record fewer than a lot
none_row : builder_plan 1024 0 ≡ 0 ∷ []
none_row = refl

alone_row : builder_plan 1024 2047 ≡ 2047 ∷ []
alone_row = refl

-- a lot, with up to 1023 more, and with 1024
lot_row : builder_plan 1024 2048 ≡ 2048 ∷ []
lot_row = refl

together_row : builder_plan 1024 3071 ≡ 3071 ∷ []
together_row = refl

apart_row : builder_plan 1024 3072 ≡ 2048 ∷ (1024 ∷ [])
apart_row = refl

-- three lots and 856
lots_row : builder_plan 1024 7000 ≡ 2048 ∷ (2048 ∷ (2904 ∷ []))
lots_row = refl

-- Over 31 leaves stands one node; 32 are halved, and of 40 the first node leaves 16, of 70 first 46 and then 22.
root_row : node_plan 16 31 ≡ 31 ∷ []
root_row = refl

halves_row : node_plan 16 32 ≡ 16 ∷ (16 ∷ [])
halves_row = refl

nodes_row : node_plan 16 40 ≡ 24 ∷ (16 ∷ [])
nodes_row = refl

three_row : node_plan 16 70 ≡ 24 ∷ (24 ∷ (22 ∷ []))
three_row = refl

-- 20000 records fill 157 blocks: 12 * 158
share_row : builder_share smallest 20000 ≡ 1896
share_row = refl

empty_row : builder_share smallest 0 ≡ 12
empty_row = refl
