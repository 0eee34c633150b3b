-- The device of the tests.
use Rattle.std.specs.Prelude.{◌≡◌}
use Rattle.em_file.specs.File.{FileState}

-- it was begun with 4 blocks of 128 records
pub record IsSmall (device : FileState) : Type 0 where
  pub blocks : device.blocks ≡ 4
  pub block : device.block ≡ 128
