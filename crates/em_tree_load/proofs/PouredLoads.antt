-- The end of a load: what a split left of the buffer is poured over the node.
use Rattle.std.proofs.Common.{◌≡◌, ℕ, zero, ◌+◌, ◌-◌, ◌*◌, ◌≤◌, min, List, [], ◌∷◌, ◌++◌, length, refl, sym, ap, ◌∙◌, subst, arith, IsTrue, Option, Some, None, Result, Ok, Err, IsErrAnd}
use Rattle.std.proofs.lemmas.List.{append-nil, length-append}
use Rattle.em_record.specs.Shape.{ShapeNumbers, fan_of, payload_of}
use Rattle.em_record.specs.declared.record.Record.{Record}
use Rattle.em_space.specs.Free.{linked_from}
use Rattle.em_space.specs.Rig.{RigState, Cause, Goes, InUse, Sound}
use Rattle.em_space.specs.declared.fault.EmFault.{EmFault}
use Rattle.em_space.proofs.Held.{in_use_below}
use Rattle.em_space.proofs.Paying.{pays_more}
use Rattle.em_chain.specs.Chain.{chain_blocks, chain_items, payload_in}
use Rattle.em_chain.specs.Counts.{ceiling}
use Rattle.em_chain.specs.Session.{Wrote}
use Rattle.em_chain.specs.Writer.{WriterStays, writer_blocks}
use Rattle.em_chain.specs.declared.writer.Writer.{Writer}
use Rattle.em_chain.proofs.Keeps.{has_kept}
use Rattle.em_chain.proofs.Laws.{writer_stays}
use Rattle.em_chain.proofs.Readers.{length_items, none_left}
use Rattle.em_chain.proofs.Sessions.{wrote_stays, wrote_then}
use Rattle.em_chain.proofs.Views.{view_of}
use Rattle.em_settle.specs.declared.step.Step.{Step}
use Rattle.em_tree_model.specs.Pouring.{pour}
use Rattle.em_tree_model.specs.Tree.{Tree}
use Rattle.em_tree_blocks.specs.Reading.{entries_at, tree_at}
use Rattle.em_empty.specs.Effects.{EmptiedAt, EmptyingCosts, reached}
use Rattle.em_empty.specs.Node.{CanEmpty, IsOver, given_blocks, node_blocks}
use Rattle.em_tree_load.specs.LeafLoads.{LoadedLeaf, LoadsLeafAt, LoadsTwo, StopsLoading, load_leaf_moves, load_peak, loading_over, taken_of, waiting_over}
use Rattle.em_tree_load.specs.NodeLoads.{LoadedHere}
use Rattle.em_tree_load.specs.Peaks.{Peaks}
use Rattle.em_tree_walk.specs.Paid.{RunsPaid, StopsPaid}
use Rattle.em_tree_load.specs.declared.changing.Split.{Split}
use Rattle.em_tree_load.proofs.AreaReads.{tight_most}
use Rattle.em_tree_walk.proofs.Losses.{frees_length, loses_same}
use Rattle.em_tree_walk.proofs.Kept.{NodeStands, node_entries, node_formed, node_stands}
use Rattle.em_tree_load.proofs.Payments.{paid_part, paid_same, paid_stops}
use Rattle.em_tree_load.proofs.PouredNodes.{PoursNode, beside_pour, over_leaves, node_poured, pour_apart, poured_last, pouring_first, reached_most}
use Rattle.em_tree_walk.proofs.Regions.{SameTally, session_same}
use Rattle.em_space.proofs.Lists.{apart_right}
use Rattle.em_tree_load.proofs.PouredNodes.{leaves_blocks}

-- No leaf was split.
pub loaded_whole : {key : Record → Record} {step : Option Record → Record → Step} {s t : RigState}
    {node i : ℕ} {w v : Writer} → (IsTrue s.device.told → Peaks (load_peak s node i) s t)
    → LoadedHere key step s t node i w v None → LoadedLeaf key step s t node i w v None
loaded_whole peaks x = record {
  peaks = peaks;
  given = x.given;
  session = x.runs.session;
  frames = x.runs.frames;
  pays = x.runs.pays;
  loses = x.runs.loses;
  wrote = x.wrote;
  told = λ z. let o = x.told z in record {
    load = o.load;
    rest = o.rest;
    sorted = o.sorted;
    loads = o.loads;
    taken = o.taken;
    fewer = o.fewer;
    given_is = o.given_is;
    stands = o.stands;
    formed = o.formed;
    moves = o.moves;
  };
}

none_of : (xs : List Record) → length xs ≡ 0 → xs ≡ []
none_of [] e = refl
none_of (x ∷ xs) e = absurd (omega (arith, e))

-- the moves of a pour, by the blocks that it reads and the buffers that get an operation
pour_few : (t u b d r m : ℕ) → u ≤ t + (2 * b + 2 * d + 4 * r + 2) → b ≤ d + 1 → r ≤ m
    → u ≤ t + (4 * d + 4 * m + 4)
pour_few t u b d r m h e g = omega (arith, h, e, g)

-- the moves of both
both_few : (s t u l d m : ℕ) → t ≤ s + (l + 2) → u ≤ t + (4 * d + 4 * m + 4)
    → u ≤ s + (l + (4 * d + 4 * m + 6))
both_few s t u l d m h g = omega (arith, h, g)

-- the blocks that a stopped pour left unstored
unstored_most : (r m f x : ℕ) → r ≤ min m f → x ≤ 1 → r + 1 + x ≤ f + 2
unstored_most r m f x h g = omega (arith, h, g)

module _ {key : Record → Record} {step : Option Record → Record → Step} {s t : RigState}
    {node i : ℕ} {w v : Writer} {x : Split} (h : LoadedHere key step s t node i w v (Some x)) where
  pub here_node : IsTrue s.device.told → NodeStands zero t node
  here_node z = let o = h.told z in node_entries zero t node o.stands o.formed

  back_told : IsTrue t.device.told → IsTrue s.device.told
  back_told y = sym h.runs.session.touches.told ∙ y

  on_told : IsTrue s.device.told → IsTrue t.device.told
  on_told z = h.runs.session.touches.told ∙ z

  pub over_here : IsTrue t.device.told → IsOver t node x.rest
  over_here y = over_leaves t node x.rest v (here_node (back_told y))
      (h.runs.session.holds (back_told y))

  -- The rest can be poured over the node.
  pub rest_pours : Sound s → InUse s node → CanEmpty t node x.rest
  rest_pours sound used =
      let below = in_use_below s node sound used in
      let blocks = h.runs.session.touches.blocks in
      record {
        in_use = record {
          told = λ y. (here_node (back_told y)).node.in_use.told y;
          untold = λ y. omega (arith, below, blocks);
        };
        chain = h.chain;
        told = over_here;
      }

  -- What a load left of two leaves, in a state with the rest poured over the node.
  cut_loads : (u : RigState) (z : IsTrue s.device.told)
      → tree_at 1 u node ≡ pour key (tree_at 1 t node) (chain_items t x.rest)
      → (let o = h.told z in LoadsTwo key step s u node i o.load o.rest o.sorted x.low)
  cut_loads u z e =
      let d = (h.told z).loads in
      record {
        y = d.y;
        z = d.z;
        ys = d.ys;
        zs = d.zs;
        splits = record {
          buffer = d.buffer;
          same = d.same;
          ascending = d.ascending;
          stored = d.stored;
          node = e ∙ (ap (λ (ops : List Record). pour key (tree_at 1 t node) ops) d.rest_is
              ∙ ap (λ (r : Tree). pour key r (h.told z).rest) d.node_is);
        };
        low_is = d.low_is;
        first_least = d.first_least;
        first_most = d.first_most;
        second_least = d.second_least;
        second_most = d.second_most;
      }

  -- how many operations are left
  pub rest_count : (z : IsTrue s.device.told)
      → (let n = length (waiting_over s node i) in x.rest.count ≡ n - taken_of s n)
  rest_count z =
      let o = h.told z in
      let d = o.loads in
      let a = length_items t x.rest h.chain (on_told z) in
      let b = ap (λ (xs : List Record). length xs) d.rest_is in
      let e = ap (λ (xs : List Record). length xs) d.buffer in
      let g = length-append o.load o.rest in
      let k = o.taken in
      omega (arith, a, b, e, g, k)

  -- Nothing is left to pour.
  pub loaded_cut : (IsTrue s.device.told → Peaks (load_peak s node i) s t) → x.rest.count ≡ 0
      → LoadedLeaf key step s t node i w v (Some x.low)
  loaded_cut peaks none =
      let whole = loading_over t node v in
      let alone : IsTrue s.device.told → SameTally (chain_blocks t x.rest ++ whole) whole =
      λ z.
      let b = none_left t x.rest (view_of t x.rest h.chain) (on_told z) none in
      let e : chain_blocks t x.rest ≡ [] =
      ap (λ (n : ℕ). linked_from n t.device.contents x.rest.head) b in
      let P : List ℕ → Type 0 = λ ks. SameTally (ks ++ whole) whole in
      subst P (sym e) (λ j. refl) in
      record {
        peaks = peaks;
        given = h.given;
        session = session_same whole h.runs.session alone;
        frames = h.runs.frames;
        pays = h.runs.pays;
        loses = loses_same (loading_over s node w) (chain_blocks t x.rest ++ whole) whole s t
            h.runs.loses alone;
        wrote = h.wrote;
        told = λ z.
            let o = h.told z in
            let len = length_items t x.rest h.chain (on_told z) in
            let moves = o.moves in
            record {
              load = o.load;
              rest = o.rest;
              sorted = o.sorted;
              loads = cut_loads t z (ap (pour key (tree_at 1 t node))
                  (sym (none_of (chain_items t x.rest) (omega (arith, len, none)))));
              taken = o.taken;
              fewer = o.fewer;
              given_is = o.given_is;
              stands = o.stands;
              formed = o.formed;
              moves = omega (arith, moves);
            };
      }

  -- the moves of the pour, at each exit
  pour_moves : (u : RigState) → Sound t → EmptyingCosts t u node x.rest
      → (z : IsTrue s.device.told) → u.moves ≤ s.moves + load_leaf_moves s node i
  pour_moves u sound costs z =
      let o = h.told z in
      let p = payload_in t in
      let shape = h.runs.session.touches.shape in
      let f = 2 * fan_of t.pool.shape in
      let n = x.rest.count in
      let low = sound.shape.block_low in
      let blocks = tight_most t x.rest low h.chain (on_told z) o.loads.tight in
      let few = reached_most t node x.rest t.device.told refl over_here in
      let moves = pour_few t.moves u.moves x.rest.blocks (ceiling n p) (reached t node x.rest) (min n f)
      costs.moves blocks few in
      let P : ShapeNumbers → Type 0 = λ sh.
      u.moves ≤ t.moves + (4 * ceiling n (payload_of sh) + 4 * min n (2 * fan_of sh) + 4) in
      let Q : ℕ → Type 0 = λ m.
      u.moves ≤ t.moves + (4 * ceiling m (payload_in s) + 4 * min m (2 * fan_of s.pool.shape) + 4) in
      let here = subst Q (rest_count z) (subst P shape moves) in
      let before = o.moves in
      omega (arith, here, before)

  module _ {u : RigState} {least : Option ℕ} (done : EmptiedAt key t u node x.rest least) where
    poured : IsTrue s.device.told → PoursNode key t u node x.rest
    poured z = node_poured v (on_told z) (here_node z) (h.runs.session.holds z) done

    answers_kept : WriterStays t u v
    answers_kept =
        writer_stays (given_blocks t node x.rest) t u v done.session.touches
        (λ y.
        let z = back_told y in
        let ls = leaves_blocks t (entries_at t node) in
        apart_right ls (writer_blocks t v) (given_blocks t node x.rest)
        (pour_apart v y (here_node z) (h.runs.session.holds z) done))
        (has_kept 1 (length v.frame) t.pool u.pool done.frames h.wrote.is.frame) h.wrote.is

    poured_runs : RunsPaid (loading_over s node w) (loading_over u node v) (min w.blocks 1)
        (min v.blocks 1) s u
    poured_runs =
        let given = given_blocks t node x.rest in
        let inner : RunsPaid given (node_blocks u node) 0 0 t u = record {
          session = done.session;
          frames = done.frames;
          pays = done.frees.pays;
          loses = frees_length done h.chain (λ y. (over_here y).buffers);
        } in
        let all = paid_part given (node_blocks u node) (beside_pour t node v) (min v.blocks 1)
        (omega arith) h.runs (λ z. pouring_first t node x.rest v) inner in
        let same = paid_same (loading_over u node v) all
        (λ z. poured_last v (on_told z) (here_node z) (h.runs.session.holds z) done
        (answers_kept.blocks (on_told z))) in
        record {
          session = same.session;
          frames = same.frames;
          pays = pays_more same.pays (omega arith);
          loses = same.loses;
        }

    -- The rest was poured.
    pub loaded_poured : (IsTrue s.device.told → Peaks (load_peak s node i) s u)
        → LoadedLeaf key step s u node i w v (Some x.low)
    loaded_poured peaks =
        let W : List Record → Type 0 = Wrote s u w v in
        let r = poured_runs in
        record {
          peaks = peaks;
          given = h.given;
          session = r.session;
          frames = r.frames;
          pays = r.pays;
          loses = r.loses;
          wrote = subst W (append-nil h.given) (wrote_then h.given [] h.wrote
              (wrote_stays done.session.touches.told answers_kept));
          told = λ z.
              let o = h.told z in
              let g = poured z in
              record {
                load = o.load;
                rest = o.rest;
                sorted = o.sorted;
                loads = cut_loads u z g.reads;
                taken = o.taken;
                fewer = o.fewer;
                given_is = o.given_is;
                stands = node_stands zero u node g.stands;
                formed = node_formed zero u node g.stands;
                moves = pour_moves u h.runs.session.sound done.costs z;
              };
        }

  -- The pour gave up.
  pub pouring_stops : {u : RigState} {fault : EmFault}
      → (IsTrue s.device.told → Peaks (load_peak s node i) s u) → Goes (given_blocks t node x.rest) t u
      → EmptyingCosts t u node x.rest → Cause t u fault → StopsLoading s u node i w fault
  pouring_stops {u} {fault} peaks goes costs cause =
      let n = min v.blocks 1 in
      let f = 2 * fan_of t.pool.shape in
      let few = reached_most t node x.rest t.device.told refl over_here in
      let inner : StopsPaid (given_blocks t node x.rest) 0 (reached t node x.rest + 1) t u fault
      = record { goes = goes; pays = costs.pays; cause = cause } in
      let r = paid_stops (given_blocks t node x.rest) (beside_pour t node v) n (omega arith) h.runs
      (λ z. pouring_first t node x.rest v) inner in
      let most = unstored_most (reached t node x.rest) x.rest.count f n few (omega arith) in
      let F : ShapeNumbers → Type 0 = λ sh.
      reached t node x.rest + 1 + n ≤ 2 * fan_of sh + 2 in
      let here = subst F h.runs.session.touches.shape most in
      record {
        goes = r.goes;
        pays = pays_more r.pays (omega (arith, here));
        cause = r.cause;
        moves = pour_moves u h.runs.session.sound costs;
        peaks = peaks;
      }

-- what that is of the result that is handed on
pub stops_of : (key : Record → Record) (step : Option Record → Record → Step) (s t : RigState)
    (node i : ℕ) (w v : Writer) (result : Result (Option Record) EmFault) (e : EmFault)
    → IsErrAnd result (λ m. m ≡ e) → StopsLoading s t node i w e
    → LoadsLeafAt key step s t node i w v result
stops_of key step s t node i w v (Ok x) e h g = absurd h
stops_of key step s t node i w v (Err m) e h g =
    subst (λ (f : EmFault). StopsLoading s t node i w f) (sym h) g
