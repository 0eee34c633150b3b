-- A worked row, by hand.
use Rattle.std.proofs.Common.{◌≡◌, refl}
use Rattle.em_record.specs.Shape.{ShapeNumbers}
use Rattle.em_adopt_cost.specs.Shares.{over_share}

-- the smallest shape: fan-out 16
abbrev smallest : ShapeNumbers
smallest = record { block = 128; frames = 64 }

-- 1000 calls fill 8 blocks, and with 20000 records 165, at 2 levels: (176 * 9 + 64 * 166) * 2 * 3
over_row : over_share smallest 20000 1000 1 ≡ 73248
over_row = refl
