-- How the variables of the definitions stand, and whether gates are above their operands, as far as they were
-- written.
use Rattle.std.specs.Prelude.{◌/◌, ◌-◌, ◌==◌, nat_lt, Bool, true, ◌&&◌, List, [], ◌∷◌}
use Rattle.em_record.specs.declared.record.Record.{Record}
use Rattle.aig_text.specs.declared.climb.Climb.{Climb}

-- before all records
abbrev pub at_foot : Climb
at_foot = record { last = 0; climbs = true; counts = true }

-- after one record more
abbrev pub after_record : Climb → Record → Climb
after_record k r = record {
  last = r.a;
  climbs = k.climbs && nat_lt k.last r.a;
  counts = k.counts && (nat_lt k.last r.a && (r.a - k.last == 1));
}

-- after some records more
abbrev pub after_records : Climb → List Record → Climb
after_records k [] = k
after_records k (r ∷ rs) = after_records (after_record k r) rs

-- all gates are above their operands, after one record more, and after some
abbrev pub above_operands : Bool → Record → Bool
above_operands b g = b && (nat_lt (g.b / 2) g.a && nat_lt (g.c / 2) g.a)

abbrev pub all_above_operands : Bool → List Record → Bool
all_above_operands b [] = b
all_above_operands b (g ∷ gs) = all_above_operands (above_operands b g) gs
