use Rattle.std.proofs.Common.{◌≡◌, ◌+◌, ◌-◌, None, take, false, IsTrue}
use Rattle.em_model.specs.Map.{value_from}
use Rattle.em_settle.specs.Add.{apply_of}
use Rattle.em_space.specs.Seen.{seen}
use Rattle.em_chain.specs.Reader.{IsReader, reader_items}
use Rattle.em_plain.specs.Looks.{Looks}
use Rattle.em_plain.specs.Command.{commands_in}
use Rattle.em_plain.proofs.map_answers.value_by.Given as goal

abbrev pub invariant-loop : goal.invariant-loop
invariant-loop g l = record {
  looks : Looks (seen g.D.Device.state l.fn.rig) (seen g.D.Device.state l.rig);
  is : IsReader (seen g.D.Device.state l.rig) l.reader;
  over : l.reader.taking ≡ false;
  count : l.reader.count + l.counter ≡ l.fn.reader.count;
  value : IsTrue (seen g.D.Device.state l.fn.rig).device.told
      → value_from (apply_of l.settle.kind) l.key None
      (commands_in (take l.fn.number (reader_items (seen g.D.Device.state l.fn.rig) l.fn.reader)))
      ≡ value_from (apply_of l.settle.kind) l.key l.found (commands_in (take (l.fn.number - l.counter)
      (reader_items (seen g.D.Device.state l.rig) l.reader)));
}
