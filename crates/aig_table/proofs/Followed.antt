-- Edges are read and followed, one after another.
use Rattle.std.proofs.Common.{◌≡◌, ℕ, ◌+◌, List, [], ◌∷◌, length, sym, subst, arith}
use Rattle.em_record.specs.declared.record.Record.{Record}
use Rattle.aig_table.specs.Follows.{FollowsEdge, FollowsTo}
use Rattle.aig_table.specs.Tables.{Following}
use Rattle.aig_table.proofs.Tables.{follow_next}

-- None was followed yet,
pub follow_begins : (edges : List Record) (last : ℕ) (old : List Record) → FollowsTo edges edges 0 last old old
follow_begins edges last old value all behind base gates k f fits h =
    let z : k ≡ k + 0 = omega arith in
    subst (λ (m : ℕ). Following value all behind base last m edges old) z h

-- and one more was.
pub follow_more : {edges rest later : List Record} {old mid new : List Record} (n last : ℕ) (e : Record)
    → length mid ≡ length old → rest ≡ e ∷ later → FollowsTo edges rest n last old mid
    → FollowsEdge e last mid new → FollowsTo edges later (n + 1) last old new
follow_more {edges} {rest} {later} {old} {mid} {new} n last e long is before a value all behind base gates k f
    fits h =
    let z : k + n + 1 ≡ k + (n + 1) = omega arith in
    let one : Following value all behind base last (k + n) (e ∷ later) mid =
    subst (λ (l : List Record). Following value all behind base last (k + n) l mid) is
    (before value all behind base gates k f fits h) in
    subst (λ (m : ℕ). Following value all behind base last m later new) z
    (follow_next f one (omega (arith, fits, long)) a)

-- No edge is left.
pub follow_ends : {edges rest : List Record} {old new : List Record} {n m last : ℕ} → rest ≡ [] → n ≡ m
    → FollowsTo edges rest n last old new → FollowsTo edges [] m last old new
follow_ends {edges} {rest} {old} {new} {n} {m} {last} e s h =
    subst (λ (i : ℕ). FollowsTo edges [] i last old new) s
    (subst (λ (l : List Record). FollowsTo edges l n last old new) e h)

-- the same edges, in other words
pub follow_as : {edges list old new : List Record} (n last : ℕ) → list ≡ edges
    → FollowsTo edges [] n last old new → FollowsTo list [] n last old new
follow_as {edges} {list} {old} {new} n last e h =
    subst (λ (l : List Record). FollowsTo l [] n last old new) (sym e) h
