-- Edges are followed: what they bring is joined to the bits of their targets.
use Rattle.std.specs.Prelude.{◌<◌, ℕ, ◌+◌, ◌*◌, ◌==◌, min, Bool, not, List, length, if◌then◌else◌}
use Rattle.em_record.specs.declared.record.Record.{Record}
use Rattle.em_bits.specs.Bits.{AndsIn, has_bit}
use Rattle.aig_defs.specs.Edges.{target}
use Rattle.aig_table.specs.Tables.{Followable, Following}

-- what an edge brings, from a rank with this bit
abbrev pub heard_bit : Bool → Record → Bool
heard_bit bit e = if e.c == 0 then bit else not bit

-- What an edge brings was joined to the bit of its target. A rank past the last one counts as the last one.
abbrev pub FollowsEdge : Record → ℕ → List Record → List Record → Type 0
FollowsEdge e last old new =
    AndsIn (min (target e) last) (heard_bit (has_bit old (min e.a last)) e) old new

-- These edges were followed, and the others are left.
abbrev pub FollowsTo : List Record → List Record → ℕ → ℕ → List Record → List Record → Type 0
FollowsTo edges later n last old new = (value : ℕ → Bool) (all behind : List Record) (base gates k : ℕ)
    → Followable value all base gates last → last < 256 * length old
    → Following value all behind base last k edges old
    → Following value all behind base last (k + n) later new
