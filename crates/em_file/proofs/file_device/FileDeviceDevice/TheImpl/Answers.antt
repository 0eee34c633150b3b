-- It tells no contents, so that what a device says of those that it tells is given.
use Rattle.std.proofs.Common.{refl}
use Rattle.em_file.proofs.Untold.{begin_cause, begun, moved, on_ok, unmoved}
use Rattle.em_file.proofs.file_device.FileDeviceDevice.TheImpl.Goals as goal

pub begin-tells : goal.begin-tells
begin-tells g c = record {
  begun = begun _ _ _ _ c.result c.ensures.after;
  told = refl;
  none_yet = c.ensures.none_yet;
  unmoved = unmoved _ _ _ _ c.result c.ensures.after;
  faults = c.ensures.faults;
  cause = begin_cause _ _ _ _ c.result c.ensures.after;
}

pub read-tells : goal.read-tells
read-tells g c = record {
  given = on_ok c.result (λ told. cc);
  kept = refl;
  moved = moved c.args.self.now _ _ c.result c.ensures.after c.ensures.faults;
}

pub write-tells : goal.write-tells
write-tells g c = record {
  stored = on_ok c.result refl;
  others = record { left = c.args.from.now; length_is = refl; is = refl };
  moved = moved c.args.self.now _ _ c.result c.ensures.after c.ensures.faults;
}
