-- A load with a frame and an area that were lent for it, and are back.
use Rattle.std.proofs.lemmas.List.{append-nil}
use Rattle.std.proofs.Common.{◌≡◌, ℕ, ◌+◌, ◌<◌, ◌≤◌, min, max, List, [], ◌++◌, refl, sym, ap, ◌∙◌, subst, arith, IsTrue, Option, Some, None, Result, Ok, Err}
use Rattle.em_record.specs.Shape.{ShapeNumbers}
use Rattle.em_record.specs.declared.record.Record.{Record}
use Rattle.em_frames.specs.Pool.{SameFrames, given, given_area, lent, lent_area, singles_of}
use Rattle.em_space.specs.Rig.{RigState, Sound, Cause, Touches}
use Rattle.em_space.specs.declared.fault.EmFault.{EmFault}
use Rattle.em_space.specs.declared.fault.EmFault.TheVariants.{DeviceFault, Full, Damaged}
use Rattle.em_space.proofs.Held.{apart_none, holds_kept, in_use_kept}
use Rattle.em_space.proofs.Steps.{touches_after, touches_pool, touches_then}
use Rattle.em_chain.specs.Chain.{chain_blocks}
use Rattle.em_chain.specs.Session.{Wrote}
use Rattle.em_chain.specs.Writer.{IsWriter, WriterHasFrame, WriterStays, writer_blocks}
use Rattle.em_chain.specs.declared.writer.Writer.{Writer}
use Rattle.em_chain.proofs.Laws.{chain_stays, writer_stays}
use Rattle.em_chain.proofs.Sessions.{wrote_stays, wrote_then}
use Rattle.em_settle.specs.declared.step.Step.{Step}
use Rattle.em_tree_blocks.specs.Reading.{tree_blocks}
use Rattle.em_tree_load.specs.LeafLoads.{CanLoadLeaf, loading_over}
use Rattle.em_tree_load.specs.NodeLoads.{IsLeft, LoadsHereTo, LoadsUpTo, here_moves, left_blocks}
use Rattle.em_tree_walk.specs.Paid.{RunsPaid}
use Rattle.em_tree_load.specs.declared.changing.Split.{Split}
use Rattle.em_tree_walk.proofs.Kept.{forms_left, stands_left}

-- the state with both lent, and with both given back
abbrev pub both_lent : RigState → RigState
both_lent s = record s { pool = lent_area (lent s.pool) }

abbrev pub both_given : RigState → RigState
both_given t = record t { pool = given (given_area t.pool) }

pub lent_both : {a b : RigState} (s : RigState) → a ≡ record s { pool = lent s.pool }
    → b ≡ record a { pool = lent_area a.pool } → b ≡ both_lent s
lent_both {a} {b} s e f =
    f ∙ ap (λ (w : RigState). record w { pool = lent_area w.pool }) e

pub given_both : {a u : RigState} (t : RigState) → a ≡ record t { pool = given_area t.pool }
    → u ≡ record a { pool = given a.pool } → u ≡ both_given t
given_both {a} {u} t e f = f ∙ ap (λ (w : RigState). record w { pool = given w.pool }) e

-- the greatest number of frames out doesn't fall
peak_least : (a b c d : ℕ) → max (max a b) c ≤ d → a ≤ d
peak_least a b c d h = omega (arith, h)

lent_touches : (s : RigState) → Touches [] s (both_lent s)
lent_touches s = touches_pool s (lent_area (lent s.pool)) refl

given_touches : (t : RigState) → Touches [] t (both_given t)
given_touches t = touches_pool t (given (given_area t.pool)) refl

-- the writer of answers with both lent
lent_writer : {s : RigState} (w : Writer) → 0 < s.pool.free → IsWriter s w
    → WriterStays s (both_lent s) w
lent_writer {s} w free i =
    let out = i.frame.out in
    writer_stays [] s (both_lent s) w (lent_touches s) (λ z. apart_none (writer_blocks s w))
    (record { len_is = i.frame.len_is; out = omega (arith, out, free) }) i

-- A leaf can be loaded with both lent.
pub can_lent : {key : Record → Record} {s : RigState} {node i : ℕ} {w : Writer} → 0 < s.pool.free
    → CanLoadLeaf key s node i w → CanLoadLeaf key (both_lent s) node i w
can_lent {key} {s} {node} {i} {w} free can =
    let a = both_lent s in
    let h = lent_touches s in
    record {
      in_use = record { told = can.in_use.told; untold = can.in_use.untold };
      writer = (lent_writer w free can.writer).is;
      told = λ z. let o = can.told z in record {
        lo = o.lo;
        hi = o.hi;
        stands = stands_left [] s a h z 1 node (apart_none (tree_blocks 1 s node)) o.stands;
        one = o.one;
        room = o.room;
        few = o.few;
        formed = forms_left [] s a h z 1 node (apart_none (tree_blocks 1 s node)) o.stands.is o.formed;
        is = o.is;
        lows = o.lows;
        holds = holds_kept [] s a (loading_over s node w) h
            (λ y. apart_none (loading_over s node w)) o.holds;
      };
    }

module _ (s t : RigState) (free : 0 < s.pool.free) (areas : 0 < s.pool.free_areas)
    (f : SameFrames (both_lent s).pool t.pool) where
  -- All frames are back,
  pub frames_back : SameFrames s.pool (both_given t).pool
  frames_back =
      let a = f.free in
      let b = f.free_areas in
      record {
        shape = f.shape;
        free = omega (arith, a, free);
        rack = f.rack;
        free_areas = omega (arith, b, areas);
        peak = peak_least s.pool.peak _ _ t.pool.peak f.peak;
      }

  -- and the writer has its own.
  pub writer_back : (w v : Writer) → IsWriter s w → WriterHasFrame t v
      → WriterHasFrame (both_given t) v
  writer_back w v i g =
      let out = i.frame.out in
      let a = f.free in
      let shape = f.shape in
      record {
        len_is = g.len_is;
        out = back (subst (λ (sh : ShapeNumbers). s.pool.free + 1 ≤ singles_of sh) (sym shape) out);
      }
    where
      back : s.pool.free + 1 ≤ singles_of t.pool.shape
          → t.pool.free + 1 + 1 ≤ singles_of t.pool.shape
      back o = let a = f.free in omega (arith, o, a, free)

runs_back : {s t : RigState} {held ks : List ℕ} {m n : ℕ} → 0 < s.pool.free
    → 0 < s.pool.free_areas → Sound (both_given t) → RunsPaid held ks m n (both_lent s) t
    → RunsPaid held ks m n s (both_given t)
runs_back {s} {t} {held} {ks} free areas sound r =
    let a = both_lent s in
    let u = both_given t in
    let h = lent_touches s in
    let g = given_touches t in
    record {
      session = record {
        sound = sound;
        touches = touches_then held s t u (touches_after held s a t h r.session.touches) g;
        within = record {
          off = λ z j k o. r.session.within.off z j (in_use_kept [] s a j h (λ y. tt) k) o;
        };
        holds = λ z. holds_kept [] t u ks g (λ y. apart_none ks) (r.session.holds z);
      };
      frames = frames_back s t free areas r.frames;
      pays = record { is = r.pays.is };
      loses = λ z. r.loses z;
    }

cause_back : (s t : RigState) (e : EmFault) → Cause (both_lent s) t e → Cause s (both_given t) e
cause_back s t DeviceFault c = c
cause_back s t (Full used) c = c
cause_back s t (Damaged block) c = c

module _ (key : Record → Record) (step : Option Record → Record → Step) (s t : RigState)
    (node i : ℕ) (w v : Writer) (free : 0 < s.pool.free) (areas : 0 < s.pool.free_areas)
    (sound : Sound (both_given t)) (writer : IsWriter s w) where
  left_back : (left : Option Split) → RunsPaid (loading_over s node w)
      (left_blocks t left ++ loading_over t node v) (min w.blocks 1) (min v.blocks 1) (both_lent s) t
      → RunsPaid (loading_over s node w)
      (left_blocks (both_given t) left ++ loading_over (both_given t) node v) (min w.blocks 1)
      (min v.blocks 1) s (both_given t)
  left_back None r = runs_back free areas sound r
  left_back (Some x) r = runs_back free areas sound r

  chain_back : (left : Option Split) → IsLeft t left → IsLeft (both_given t) left
  chain_back None c = tt
  chain_back (Some x) c = (chain_stays [] t (both_given t) x.rest (given_touches t)
      (λ z. apart_none (chain_blocks t x.rest)) c).is

  loads_back : (left : Option Split) (load rest sorted : List Record)
      → LoadsUpTo key step (both_lent s) t node i load rest sorted left
      → LoadsUpTo key step s (both_given t) node i load rest sorted left
  loads_back None load rest sorted o = record {
    buffer = o.buffer;
    same = o.same;
    ascending = o.ascending;
    few = o.few;
    node_is = o.node_is;
  }
  loads_back (Some x) load rest sorted o = record {
    y = o.y;
    z = o.z;
    ys = o.ys;
    zs = o.zs;
    buffer = o.buffer;
    same = o.same;
    ascending = o.ascending;
    stored = o.stored;
    low_is = o.low_is;
    first_least = o.first_least;
    first_most = o.first_most;
    second_least = o.second_least;
    second_most = o.second_most;
    rest_is = o.rest_is;
    tight = record { full = o.tight.full };
    node_is = o.node_is;
  }

  moves_back : (left : Option Split) (n m : ℕ) → n ≤ m + here_moves (both_lent s) node i left
      → n ≤ m + here_moves s node i left
  moves_back None n m h = h
  moves_back (Some x) n m h = h

  -- What a load did, over both.
  pub loaded_back : (result : Result (Option Split) EmFault)
      → LoadsHereTo key step (both_lent s) t node i w v result
      → LoadsHereTo key step s (both_given t) node i w v result
  loaded_back (Ok left) x =
      let u = both_given t in
      let g = given_touches t in
      let W : List Record → Type 0 = Wrote s u w v in
      let before : Wrote s (both_lent s) w w [] = wrote_stays refl (lent_writer w free writer) in
      let after : Wrote t u v v [] = wrote_stays refl (writer_stays [] t u v g
      (λ z. apart_none (writer_blocks t v))
      (writer_back s t free areas x.runs.frames w v writer x.wrote.is.frame) x.wrote.is) in
      record {
        given = x.given;
        runs = left_back left x.runs;
        wrote = subst W (append-nil x.given)
            (wrote_then x.given [] (wrote_then [] x.given before x.wrote) after);
        chain = chain_back left x.chain;
        told = λ z.
            let o = x.told z in
            let zt : IsTrue t.device.told = x.runs.session.touches.told ∙ z in
            record {
              load = o.load;
              rest = o.rest;
              sorted = o.sorted;
              loads = loads_back left o.load o.rest o.sorted o.loads;
              taken = o.taken;
              fewer = o.fewer;
              given_is = o.given_is;
              stands = stands_left [] t u g zt 1 node (apart_none (tree_blocks 1 t node)) o.stands;
              formed = forms_left [] t u g zt 1 node (apart_none (tree_blocks 1 t node)) o.stands.is
                  o.formed;
              moves = moves_back left t.moves s.moves o.moves;
            };
      }
  loaded_back (Err fault) x =
      let a = both_lent s in
      let u = both_given t in
      let h = lent_touches s in
      let g = given_touches t in
      record {
        stops = record {
          goes = record {
            sound = sound;
            touches = touches_then (loading_over s node w) s t u
                (touches_after (loading_over s node w) s a t h x.stops.goes.touches) g;
            frames = frames_back s t free areas x.stops.goes.frames;
          };
          pays = record { is = x.stops.pays.is };
          cause = cause_back s t fault x.stops.cause;
        };
        moves = λ z. x.moves z;
      }

-- what stands at each result
pub here_sound : (key : Record → Record) (step : Option Record → Record → Step) (s t : RigState)
    (node i : ℕ) (w v : Writer) (result : Result (Option Split) EmFault)
    → LoadsHereTo key step s t node i w v result → Sound t × SameFrames s.pool t.pool
here_sound key step s t node i w v (Ok left) x = (x.runs.session.sound, x.runs.frames)
here_sound key step s t node i w v (Err fault) x = (x.stops.goes.sound, x.stops.goes.frames)
