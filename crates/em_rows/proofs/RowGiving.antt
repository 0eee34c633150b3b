-- A service that is given the rows of two texts, and what it answers.
use Rattle.std.proofs.Common.{◌≡◌, ℕ, ◌+◌, ◌≤◌, ◌++◌, List, [], length, refl, ap, subst, ◌∙◌, arith, append_assoc, Bool, IsTrue, IfSome, Result, Ok, Err, IsErr}
use Rattle.std.specs.Prelude.{OnOk}
use Rattle.std.proofs.lemmas.List.{length-append}
use Rattle.em_record.specs.Shape.{IsShape, ShapeNumbers, payload_of}
use Rattle.em_model.specs.Map.{Combiner}
use Rattle.em_model.specs.declared.command.Command.{Command}
use Rattle.em_model.specs.declared.command.Command.TheVariants as command
use Rattle.em_space.specs.Rig.{RigState, Sound, Touches}
use Rattle.em_space.proofs.Within.{within_then}
use Rattle.em_chain.specs.Chain.{IsChain, IsPacked, chain_items, payload_in}
use Rattle.em_chain.specs.Counts.{ceiling}
use Rattle.em_chain.specs.declared.chain.Chain.{Chain}
use Rattle.em_chain.proofs.Counts.{packed_blocks}
use Rattle.em_chain.proofs.Readers.{length_items}
use Rattle.em_chain.proofs.Sessions.{ceiling_rises}
use Rattle.em_lines.specs.declared.text.FileKind.{FileKind}
use Rattle.em_lines.specs.declared.text.FileKind.TheVariants as files
use Rattle.em_ends.specs.declared.stop.Stop.{Stop}
use Rattle.em_services.specs.DumpLaws.{pairs_records_few}
use Rattle.em_services.specs.Service.{MakesService, RisesBySize, WithinAllowance, records_for, size_of}
use Rattle.em_services.specs.SizeLaws.{size_rises}
use Rattle.em_services.specs.declared.service.Service.{Ghosts as ServiceGhosts}
use Rattle.em_services.proofs.AnswerOrder.{records_few}
use Rattle.em_map.proofs.Areas.{goes_on_nothing, goes_on_within}
use Rattle.em_services.proofs.Areas.{within_more}
use Rattle.em_rows.specs.Answered.{GivesRows, MovesBySize}
use Rattle.em_rows.specs.Moves.{MovesOwn, MovesTo, MovesWithRows, TakesRows}
use Rattle.em_rows.specs.Taken.{IsRow}
use Rattle.em_rows.specs.declared.kinds.RowKind.{RowKind}
use Rattle.em_rows.specs.declared.kinds.RowKind.TheVariants as kinds
use Rattle.em_rows.proofs.RowMoves.{moves_by_size, moves_call, moves_made, moves_more, moves_unmoved}
use Rattle.em_rows.proofs.RowSizes.{rows_both}

-- No row is a sync.
no_sync_row : (kind : RowKind) → IsRow kind command.Sync → ⊥
no_sync_row kinds.Pair is = is
no_sync_row kinds.Counted is = is
no_sync_row kinds.Asked is = is
no_sync_row kinds.Window is = is
no_sync_row kinds.Moment is = is

pub row_other : (kind : RowKind) (c : Command) → IsRow kind c → c ≡ command.Sync → ⊥
row_other kind c is e = no_sync_row kind (subst (λ (x : Command). IsRow kind x) e is)

-- The records of the answers to some commands are no more than their size,
records_most : (apply : Combiner) (kind : FileKind) (cs : List Command)
    → length (records_for apply kind [] cs) ≤ size_of kind cs
records_most apply files.Map cs = records_few apply [] cs
records_most apply files.Queue cs = omega arith
records_most apply files.Stab cs = omega arith
records_most apply files.Dump cs = pairs_records_few apply cs

-- whose list is packed.
pub records_blocks : (apply : Combiner) (kind : FileKind) (cs : List Command) (s t : RigState) (c : Chain)
    → IsShape s.pool.shape → t.pool.shape ≡ s.pool.shape → IsChain t c → IsTrue t.device.told → IsPacked t c
    → chain_items t c ≡ records_for apply kind [] cs → c.blocks ≤ ceiling (size_of kind cs) (payload_in s)
records_blocks apply kind cs s t c is shape chain told packed items =
    let low : 128 ≤ t.pool.shape.block = rw shape is.block_low in
    let blocks = packed_blocks t c low chain told packed in
    let count = length_items t c chain told in
    let same = ap length items in
    let few = records_most apply kind cs in
    let more = ceiling_rises c.count (size_of kind cs) (payload_in s)
    (let b = is.block_low in omega (arith, b)) (omega (arith, count, same, few)) in
    let payload = ap payload_of shape in
    let e = ap (λ (p : ℕ). ceiling c.count p) payload in
    omega (arith, blocks, e, more)

module _ {S R : Type 0} (v : ServiceGhosts S R) (rises : IfSome v.allowance RisesBySize)
    (most : (x : S) (shape : ShapeNumbers) (cs : List Command) → v.size x shape cs ≤ size_of v.KIND cs) (tells : Bool)
  where
    -- Nothing was given.
    pub gives_none : (commands : List Command) (x : S) (s : RigState) (stop : Stop) → Sound s → v.HasItsFrames x s
        → GivesRows v tells commands x x s s (Err stop)
    gives_none commands x s stop sound frames = record {
      goes = goes_on_nothing (v.areas x) (v.blocks x s) s sound;
      joins = refl;
      sizes = refl;
      frames = frames;
      is = tt;
      within = tt;
      has = λ told. tt;
      counted = λ told. tt;
      since = tt;
      moves = λ told first before cs h m.
          let few = most x s.pool.shape (before ++ cs) in
          let front = size_rises v.KIND (before ++ cs) commands in
          moves_more v.allowance first (v.size x s.pool.shape (before ++ cs))
          (size_of v.KIND (before ++ cs ++ commands)) s rises sound.shape (omega (arith, few, front)) m.within;
    }

    took_same : (a b : List Command) (x y : S) (s t : RigState) (result : Result (Unit {0}) Stop)
        → (IsTrue tells → a ≡ b) → OnOk result (TakesRows v tells a x y s t)
        → OnOk result (TakesRows v tells b x y s t)
    took_same a b x y s t (Ok k) e takes = λ first before cs h m.
        let took = takes first before cs h m in
        record { given = took.given; told = λ told. took.told told ∙ e told; has = took.has; moves = took.moves }
    took_same a b x y s t (Err stop) e takes = tt

    -- The rows are these.
    pub gives_same : (a b : List Command) (x y : S) (s t : RigState) (result : Result (Unit {0}) Stop)
        → (IsTrue tells → a ≡ b) → GivesRows v tells a x y s t result → GivesRows v tells b x y s t result
    gives_same a b x y s t result e p = record {
      goes = p.goes;
      joins = p.joins;
      sizes = p.sizes;
      frames = p.frames;
      is = p.is;
      within = p.within;
      has = λ told. subst (λ (xs : List Command). OnOk result ((before cs : List Command) → v.Has x s before cs
          → v.Has y t before (cs ++ xs))) (e told) (p.has told);
      counted = λ told. subst (λ (xs : List Command). OnOk result ((v.counts y).n ≡ (v.counts x).n + length xs))
          (e told) (p.counted told);
      since = took_same a b x y s t result e p.since;
      moves = λ told. subst (λ (xs : List Command). MovesWithRows v xs x s t) (e told) (p.moves told);
    }

    -- The rows of the first text were given up to a stop,
    pub gives_front : (a b : List Command) (x y : S) (s t : RigState) (stop : Stop) (result : Result (Unit {0}) Stop)
        → IsErr result → GivesRows v tells a x y s t (Err stop) → GivesRows v tells (a ++ b) x y s t result
    gives_front a b x y s t stop (Ok k) is p = cc
    gives_front a b x y s t stop (Err e) is p = record {
      goes = p.goes;
      joins = p.joins;
      sizes = p.sizes;
      frames = p.frames;
      is = tt;
      within = tt;
      has = λ told. tt;
      counted = λ told. tt;
      since = tt;
      moves = λ told first before cs h m.
          let front = size_rises v.KIND (before ++ cs ++ a) b in
          let same = ap (λ (xs : List Command). size_of v.KIND xs) (append_assoc (before ++ cs) a b) in
          moves_more v.allowance first (size_of v.KIND (before ++ cs ++ a))
          (size_of v.KIND (before ++ cs ++ (a ++ b))) t rises p.goes.sound.shape (omega (arith, front, same))
          (p.moves told first before cs h m);
    }

    -- or all, and then those of the second.
    module _ (a b : List Command) (x y z : S) (s t u : RigState) {k : Unit {0}}
        (p : GivesRows v tells a x y s t (Ok k)) where
      both_moves : IsTrue tells → MovesWithRows v b y t u → MovesWithRows v (a ++ b) x s u
      both_moves told moves first before cs h m =
          let took = p.since first before cs h m in
          let own : MovesOwn v first (before ++ (cs ++ a)) y t =
          subst (λ (xs : List Command). MovesOwn v first (before ++ (cs ++ xs)) y t) (took.told told) took.moves in
          subst (λ (xs : List Command). MovesTo v.allowance first (size_of v.KIND xs) u) (rows_both before cs a b)
          (moves first before (cs ++ a) (p.has told before cs h) own)

      both_taken : TakesRows v tells b y z t u → TakesRows v tells (a ++ b) x z s u
      both_taken takes first before cs h m =
          let one = p.since first before cs h m in
          let two = takes first before (cs ++ one.given) one.has one.moves in
          let all = append_assoc cs one.given two.given in
          record {
            given = one.given ++ two.given;
            told = λ told. ap (λ (xs : List Command). xs ++ two.given) (one.told told)
                ∙ ap (λ (xs : List Command). a ++ xs) (two.told told);
            has = subst (λ (xs : List Command). v.Has z u before xs) all two.has;
            moves = subst (λ (xs : List Command). MovesOwn v first (before ++ xs) z u) all two.moves;
          }

      pub gives_both : (result : Result (Unit {0}) Stop) → GivesRows v tells b y z t u result
          → GivesRows v tells (a ++ b) x z s u result
      gives_both (Ok j) q = record {
        goes = goes_on_within (v.areas x) (v.areas y) (v.areas z) (v.blocks x s) (v.blocks y t) s t u p.goes p.within
            q.goes;
        joins = q.joins ∙ p.joins;
        sizes = q.sizes ∙ p.sizes;
        frames = q.frames;
        is = q.is;
        within = within_then s t (v.blocks x s) (v.blocks y t) (v.blocks z u) p.goes.touches p.within q.within;
        has = λ told before cs h. subst (λ (xs : List Command). v.Has z u before xs) (append_assoc cs a b)
            (q.has told before (cs ++ a) (p.has told before cs h));
        counted = λ told.
            let n = p.counted told in
            let m = q.counted told in
            let long = length-append a b in
            omega (arith, n, m, long);
        since = both_taken q.since;
        moves = λ told. both_moves told (q.moves told);
      }
      gives_both (Err stop) q = record {
        goes = goes_on_within (v.areas x) (v.areas y) (v.areas z) (v.blocks x s) (v.blocks y t) s t u p.goes p.within
            q.goes;
        joins = q.joins ∙ p.joins;
        sizes = q.sizes ∙ p.sizes;
        frames = q.frames;
        is = tt;
        within = tt;
        has = λ told. tt;
        counted = λ told. tt;
        since = tt;
        moves = λ told. both_moves told (q.moves told);
      }

-- A new service was given the rows, and a call came after it: what moved.
module _ {S R : Type 0} (v : ServiceGhosts S R) (rises : IfSome v.allowance RisesBySize)
    (most : (x : S) (shape : ShapeNumbers) (cs : List Command) → v.size x shape cs ≤ size_of v.KIND cs) (tells : Bool)
    (commands : List Command) (x y : S) (s m u w : RigState)
    (made : MakesService v.allowance v.room v.frames (v.blocks x m) (v.counts x) s m)
    (within : WithinAllowance v.allowance 0 0 (λ shape. 0) s m) (has : v.Has x m [] []) (is : IsShape s.pool.shape)
  where
    own_made : MovesOwn v s.moves [] x m
    own_made =
        moves_made v.allowance v.room v.frames (v.blocks x m) (v.counts x) s m (v.size x m.pool.shape []) rises is
        made within

    -- It gave its answers to all of them,
    module _ {k : Unit {0}} (given : GivesRows v tells commands x y m u (Ok k)) (held : List ℕ)
        (touches : Touches held u w) where
      answered_to : WithinAllowance v.allowance (v.size y u.pool.shape commands) (v.counts y).syncs
          (v.counts y).spent u w → MovesTo v.allowance s.moves (size_of v.KIND commands) w
      answered_to now =
          moves_call v.allowance s.moves (size_of v.KIND commands) held (v.counts y) u w
          (given.since s.moves [] [] has own_made).moves touches
          (within_more v.allowance (v.size y u.pool.shape commands) (size_of v.KIND commands) (v.counts y).syncs
          (v.counts y).spent u w rises given.goes.sound.shape (most y u.pool.shape commands) now)

      pub answered_moves : (IsTrue tells → WithinAllowance v.allowance (v.size y u.pool.shape commands)
          (v.counts y).syncs (v.counts y).spent u w) → MovesBySize v.allowance v.KIND tells commands s w
      answered_moves now =
          moves_by_size v.allowance v.KIND tells commands s w
          (touches.told ∙ given.goes.touches.told ∙ made.touches.told)
          (touches.shape ∙ given.goes.touches.shape ∙ made.touches.shape) (λ told. answered_to (now told))

    -- or it was given up.
    pub stopped_moves : (stop : Stop) → GivesRows v tells commands x y m u (Err stop) → Touches [] u w
        → w.moves ≡ u.moves → MovesBySize v.allowance v.KIND tells commands s w
    stopped_moves stop given touches same =
        moves_by_size v.allowance v.KIND tells commands s w
        (touches.told ∙ given.goes.touches.told ∙ made.touches.told)
        (touches.shape ∙ given.goes.touches.shape ∙ made.touches.shape)
        (λ told. moves_unmoved v.allowance s.moves (size_of v.KIND commands) [] u w touches same
        (given.moves told s.moves [] [] has own_made))
