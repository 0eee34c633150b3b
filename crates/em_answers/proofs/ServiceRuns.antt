-- The runs of a map, of a dump and of an interval list are within their transfer cost and the room.
use Rattle.std.proofs.Common.{◌≡◌, ℕ, ◌+◌, ◌*◌, ◌≤◌, Bool, List, refl, arith, Some}
use Rattle.std.proofs.Math.Nat.{mul-le-mul, mul-le-mul_left}
use Rattle.em_record.specs.Cost.{blocks_of, cost, room}
use Rattle.em_record.specs.Shape.{IsShape, ShapeNumbers, payload_of}
use Rattle.em_io.specs.declared.shelf.Shelf.{Ghosts as ShelfGhosts}
use Rattle.em_io.specs.declared.sink.Sink.{Ghosts as SinkGhosts}
use Rattle.em_space.specs.Rig.{RigState}
use Rattle.em_chain.specs.Counts.{ceiling}
use Rattle.em_tree_cost.specs.Shares.{floors_of, queue_share, stab_share}
use Rattle.em_tree_cost.proofs.Services.{stab_cost}
use Rattle.em_tree_cost.proofs.Wider.{blocks_wider, chain_most, floors_wider}
use Rattle.em_lines.specs.declared.text.FileKind.TheVariants.{Map, Stab, Dump}
use Rattle.em_ends.specs.declared.status.Status.{Status}
use Rattle.em_ready.specs.Ready.{IsUnused}
use Rattle.em_services.specs.BatchService.{map_share, map_size}
use Rattle.em_services.specs.Service.{size_of}
use Rattle.em_services.proofs.BatchAnswers.{ceiling_share}
use Rattle.em_answers.specs.FileRun.{Runs, RunsWithin}
use Rattle.em_answers.specs.Limits.{Limits, cost_for, taken_size}
use Rattle.em_answers.specs.Reading.{service_limits}
use Rattle.em_answers.proofs.Moves.{runs_by_cost}
use Rattle.em_answers.proofs.Sizes.{plain_size}
use Rattle.em_model.specs.Map.{Combiner}

-- the moves of a map's run are within its transfer cost,
pub map_few : (shape : ShapeNumbers) → IsShape shape → (n : ℕ)
    → map_share shape n + ceiling n (payload_of shape) ≤ cost shape n
map_few shape is n =
    let q = blocks_of shape n in
    let f = floors_of shape n in
    let other = ceiling_share shape n n (omega arith) (let low = is.block_low in omega (arith, low)) in
    let chain = chain_most shape n is in
    let blocks = blocks_wider shape 2 n (2 * n) is (omega arith) in
    let floors = floors_wider shape n (2 * n) is (omega arith) in
    let queue : queue_share shape (2 * n) (2 * n) ≤ 240 * (2 * q + 1 + 1) * (2 * f) =
    mul-le-mul {n₁ = 240 * (blocks_of shape (2 * n) + 1)} {m₁ = floors_of shape (2 * n)}
    {n₂ = 240 * (2 * q + 1 + 1)} {m₂ = 2 * f} (omega (arith, blocks)) floors in
    let some : (q + 1) * 1 ≤ (q + 1) * f = mul-le-mul_left (q + 1) (omega arith) in
    omega (arith, other, chain, queue, some)

-- and so is the run, with its adds joined early or not.
pub map_runs : {H W : Type 0} (apply : Combiner) (early : Bool) (h : ShelfGhosts H) (w : SinkGhosts W) (s t : RigState) (shelf : H)
    (out : W) (shelf_after : H) (out_after : W) (end : Status) → IsUnused s → s.moves ≡ 0
    → RunsWithin apply (taken_size (map_size early) Map) h w (service_limits (Some map_share) (Some room)) Map s t shelf out shelf_after out_after end
    → Runs apply early h w Map s t shelf out shelf_after out_after end
map_runs apply early h w s t shelf out shelf_after out_after end unused none r =
    let sound = unused.sound in
    runs_by_cost apply early (taken_size (map_size early) Map) Map (λ shape size. map_share shape size + ceiling size (payload_of shape))
    room s t shelf out shelf_after out_after end r (λ text left. refl)
    (map_few s.pool.shape sound.shape) (λ n. omega arith) (λ n. omega arith)
    (let moves = sound.moves_is in omega (arith, moves, none))

-- those of a dump's are even within a map's,
pub dump_few : (shape : ShapeNumbers) → IsShape shape → (n : ℕ)
    → map_share shape n + ceiling n (payload_of shape) ≤ cost_for Dump shape n
dump_few shape is n = let few = map_few shape is n in omega (arith, few)

-- and so is its run, which joins no adds early.
pub dump_runs : {H W : Type 0} (apply : Combiner) (early : Bool) (h : ShelfGhosts H) (w : SinkGhosts W) (s t : RigState) (shelf : H)
    (out : W) (shelf_after : H) (out_after : W) (end : Status) → IsUnused s → s.moves ≡ 0
    → RunsWithin apply (taken_size (λ shape. size_of Dump) Dump) h w (service_limits (Some map_share) (Some room)) Dump s t shelf out shelf_after out_after end
    → Runs apply early h w Dump s t shelf out shelf_after out_after end
dump_runs apply early h w s t shelf out shelf_after out_after end unused none r =
    let sound = unused.sound in
    runs_by_cost apply early (taken_size (λ shape. size_of Dump) Dump) Dump (λ shape size. map_share shape size + ceiling size (payload_of shape))
    room s t shelf out shelf_after out_after end r (plain_size Dump)
    (dump_few s.pool.shape sound.shape) (λ n. omega arith) (λ n. omega arith)
    (let moves = sound.moves_is in omega (arith, moves, none))

-- the moves of a stab file's run are within its transfer cost,
pub stab_few : (shape : ShapeNumbers) → IsShape shape → (n : ℕ)
    → stab_share shape n + ceiling n (payload_of shape) ≤ cost shape n
stab_few shape is n =
    let other = ceiling_share shape n n (omega arith) (let low = is.block_low in omega (arith, low)) in
    let all = stab_cost shape n (stab_share shape n) (ceiling n (payload_of shape)) 0 is (omega arith)
    (omega (arith, other)) (omega arith) in
    omega (arith, all)

-- An interval list has no adds, so that its run is the same by any combiner.
stab_joined : {H W : Type 0} (first apply : Combiner) (size : ShapeNumbers → (text left : List ℕ) → ℕ) (h : ShelfGhosts H) (w : SinkGhosts W) (limits : Limits)
    (s t : RigState) (shelf : H) (out : W) (shelf_after : H) (out_after : W) (end : Status)
    → RunsWithin first size h w limits Stab s t shelf out shelf_after out_after end
    → RunsWithin apply size h w limits Stab s t shelf out shelf_after out_after end
stab_joined first apply size h w limits s t shelf out shelf_after out_after end r = record {
  ended = r.ended;
  caused = r.caused;
  most = r.most;
  reads = r.reads;
  all_read = r.all_read;
  no_usage = r.no_usage;
  no_memory = r.no_memory;
}

-- and so is the run, by any combiner.
pub stab_runs : {H W : Type 0} (first apply : Combiner) (early : Bool) (h : ShelfGhosts H) (w : SinkGhosts W) (s t : RigState) (shelf : H)
    (out : W) (shelf_after : H) (out_after : W) (end : Status) → IsUnused s → s.moves ≡ 0
    → RunsWithin first (taken_size (λ shape. size_of Stab) Stab) h w (service_limits (Some stab_share) (Some room)) Stab s t shelf out shelf_after out_after end
    → Runs apply early h w Stab s t shelf out shelf_after out_after end
stab_runs first apply early h w s t shelf out shelf_after out_after end unused none r =
    let sound = unused.sound in
    runs_by_cost apply early (taken_size (λ shape. size_of Stab) Stab) Stab (λ shape size. stab_share shape size + ceiling size (payload_of shape))
    room s t shelf out shelf_after out_after end
    (stab_joined first apply (taken_size (λ shape. size_of Stab) Stab) h w (service_limits (Some stab_share) (Some room)) s t
    shelf out shelf_after out_after end r)
    (plain_size Stab) (stab_few s.pool.shape sound.shape) (λ n. omega arith) (λ n. omega arith)
    (let moves = sound.moves_is in omega (arith, moves, none))
