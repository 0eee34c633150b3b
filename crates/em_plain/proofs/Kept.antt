-- A list of commands is answered and kept: it becomes a chain, beside a writer that was made before, and
-- once it is answered that writer has its commands.
use Rattle.std.proofs.Common.{◌≡◌, ℕ, ◌+◌, ◌<◌, ◌≤◌, List, [], ◌++◌, length, sym, ap, ◌∙◌, subst, arith, IsTrue, Ok, Err, Result}
use Rattle.std.proofs.lemmas.List.{append-nil}
use Rattle.std.specs.Result.{IsErrAnd}
use Rattle.em_record.specs.Shape.{ShapeNumbers}
use Rattle.em_space.specs.Ledger.{Session}
use Rattle.em_space.specs.Queue.{Pays}
use Rattle.em_space.specs.Rig.{Goes, RigState, Sound}
use Rattle.em_space.specs.declared.fault.EmFault.{EmFault}
use Rattle.em_space.specs.declared.fault.EmFault.TheVariants.{DeviceFault, Full, Damaged}
use Rattle.em_space.proofs.Paying.{pays_more, pays_of_owes, pays_then}
use Rattle.em_space.proofs.Sessions.{session_as, session_last, session_others, session_still, session_then, session_trans}
use Rattle.em_space.proofs.Steps.{cause_after}
use Rattle.em_chain.specs.Chain.{ChainStays, chain_blocks, chain_items, payload_in}
use Rattle.em_chain.specs.Counts.{ceiling}
use Rattle.em_chain.specs.Effects.{GivesFrame, LendsFrame, OnFull, Unmoved}
use Rattle.em_chain.specs.Writer.{WriterHasFrame, WriterStays, writer_blocks}
use Rattle.em_chain.specs.Writes.{Begins}
use Rattle.em_chain.specs.declared.chain.Chain.{Chain}
use Rattle.em_chain.specs.declared.writer.Writer.{Writer}
use Rattle.em_chain.proofs.Keeps.{payload_kept}
use Rattle.em_chain.proofs.Laws.{chain_stays, writer_stays}
use Rattle.em_chain.proofs.Paying.{pays_unmoved}
use Rattle.em_chain.proofs.Writings.{writer_lent}
use Rattle.em_plain.specs.Adds.{Written}
use Rattle.em_plain.specs.Anew.{WritesAnew}
use Rattle.em_plain.specs.Answered.{AnswersList, KeepsList}
use Rattle.em_plain.specs.Asks.{Asks, most_in, records_for, records_in}
use Rattle.em_plain.specs.Command.{commands_in}
use Rattle.em_plain.specs.CommandList.{IsCommandList, held, list_blocks, list_commands, unstored}
use Rattle.em_plain.specs.Room.{StaysWithin}
use Rattle.em_plain.specs.declared.command_list.CommandList.{CommandList}
use Rattle.em_plain.proofs.Answered.{Ending, commands_stay, ending_gives, ending_released, list_told, records_are}
use Rattle.em_plain.proofs.Restarts.{begins_still, finish_goes, none_full}

-- what the fault of a callee says of the result
pub keeps_err : {s t : RigState} {l m : CommandList} (asks : Asks) (result : Result Chain EmFault)
    (e : EmFault) → IsErrAnd result (λ f. f ≡ e) → KeepsList asks s t l m (Err e)
    → KeepsList asks s t l m result
keeps_err asks (Ok c) e h a = absurd h
keeps_err {s} {t} {l} {m} asks (Err f) e h a =
    subst (λ (g : EmFault). KeepsList asks s t l m (Err g)) (sym h) a

full_sooner : (e : EmFault) (m n p q : ℕ) → OnFull e (m < n) → p ≤ m → n ≤ q → OnFull e (p < q)
full_sooner DeviceFault m n p q h i j = tt
full_sooner (Full used) m n p q h i j = omega (arith, h, i, j)
full_sooner (Damaged block) m n p q h i j = tt

-- A writer was made beside the list.
module _ {s a : RigState} {l : CommandList} {f : Writer} (sound : Sound s) (is : IsCommandList s l)
    (lends : LendsFrame s a) (unmoved : Unmoved s a) (begins : Begins a f) where
  lent : WriterStays s a l.writer
  lent = writer_lent is.writer lends

  lent_commands : IsTrue s.device.told → list_commands a l ≡ list_commands s l
  lent_commands z = ap commands_in (lent.items z)

  pub kept_goes : {t : RigState} → GivesFrame (list_blocks a l) a t → Goes (list_blocks s l) s t
  kept_goes {t} g = finish_goes s a t l.writer is.writer lends g

  -- its frame is the pool's still
  pub fresh_frame : {t : RigState} → GivesFrame (list_blocks a l) a t → WriterHasFrame t f
  fresh_frame {t} g =
      let goes = kept_goes g in
      let free = goes.frames.free in
      let out = is.writer.frame.out in
      record {
        len_is = begins.is.frame.len_is ∙ ap (λ (y : ShapeNumbers). y.block) (sym g.frames.shape);
        out = rw goes.frames.shape (omega arith);
      }

  -- The list couldn't be finished or answered.
  pub kept_stops : {t : RigState} {e : EmFault} (asks : Asks)
      → AnswersList asks a t l (Err e) → KeepsList asks s t l (record { writer = f }) (Err e)
  kept_stops {t} {e} asks k =
      let u = unmoved.same.used in
      let p : ceiling k.records (payload_in a) ≡ ceiling k.records (payload_in s) =
      ap (λ (q : ℕ). ceiling k.records q) (payload_kept [] s a lends.touches) in
      record {
        goes = kept_goes k.gives;
        frame = fresh_frame k.gives;
        kept = tt;
        records = k.records;
        told = λ z.
            let n = ap (λ (cs : _). length (records_for asks cs)) (lent_commands z) in
            let t = k.told (lends.touches.told ∙ z) in
            omega (arith, n, t);
        few = k.few;
        most = let m = k.most.is in record { is = omega (arith, m, u, unmoved.same.most, p) };
        owes = pays_then (pays_unmoved (unstored l) unmoved)
            (subst (λ (h : ShapeNumbers). Pays (unstored l) h.frames a t) lends.touches.shape k.owes)
            k.gives.touches.moves;
        full = full_sooner e a.blocks (a.used + ceiling k.records (payload_in a)) s.blocks
            (s.used + (ceiling k.records (payload_in s) + 1)) k.full
            (omega (arith, lends.touches.blocks)) (omega (arith, u, p));
        cause = cause_after [] s a t e lends.touches k.cause;
      }

  -- The list is a chain, and was answered.
  module _ {b c : RigState} {k d : Chain} (asks : Asks) (ending : Ending a b c l k)
      (w : Written (most_in asks k.count) b c (records_in asks (chain_items b k)) d) where
    pub begins_yet : Begins c f
    begins_yet =
        let g = ending_gives ending in
        begins_still a c f begins (writer_stays (list_blocks a l) a c f g.touches
        (λ z. rw begins.held tt) (fresh_frame g) begins.is)

    pub none_yet : k.count ≡ 0 → k.blocks ≡ 0
    none_yet e = ending.finishes.blocks_is
        ∙ none_full s l.writer is.writer is.filled_is (sym ending.finishes.count_is ∙ e)

    told_b : IsTrue s.device.told → IsTrue b.device.told
    told_b z = ending.gives.touches.told ∙ lends.touches.told ∙ z

    told_c : IsTrue s.device.told → IsTrue c.device.told
    told_c z = ending.goes.touches.told ∙ told_b z

    -- the blocks of the chain and of its answers
    both_held : Session (list_blocks s l) s c (chain_blocks c k ++ chain_blocks c d)
    both_held =
        let first = session_as (list_blocks a l) (session_still (list_blocks s l) lends.sound lends.touches
        (λ z. (is.writer.told z).holds)) lent.blocks in
        let second : Session (list_blocks a l) a b (chain_blocks b k ++ []) = record {
          sound = ending.gives.sound;
          touches = ending.gives.touches;
          within = record {
            off = λ z j i o. rw (append-nil (chain_blocks b k), ending.finishes.blocks z) o;
          };
          holds = λ z. rw (append-nil (chain_blocks b k))
              ((ending.finishes.is.told (ending.gives.touches.told ∙ z)).holds);
        } in
        session_as (chain_blocks c k ++ chain_blocks c d)
        (session_last (chain_blocks b k) [] (chain_blocks c d) (session_trans first second) w.runs.session)
        (λ z. ap (λ (ks : List ℕ). ks ++ chain_blocks c d) ((commands_stay ending).blocks (told_b z)))

    answer_blocks : d.blocks ≡ ceiling (length w.written) (payload_in s)
    answer_blocks = w.blocks_is ∙ ap (λ (q : ℕ). ceiling (length w.written) q)
        (payload_kept (list_blocks a l) a b ending.gives.touches ∙ payload_kept [] s a lends.touches)

    answer_few : IsTrue s.device.told → length w.written ≤ length (records_for asks (list_commands s l))
    answer_few z =
        let n = ap (λ (cs : _). length (records_for asks cs)) (lent_commands z) in
        let t = list_told asks ending w (lends.touches.told ∙ z) in
        omega (arith, n, t)

    -- what was paid before it is written anew
    paid_before : Pays (unstored l) 0 s c
    paid_before = pays_then (pays_unmoved (unstored l) unmoved)
        (pays_then ending.spends.pays w.runs.spends.pays w.runs.spends.later)
        (omega (arith, ending.spends.later, w.runs.spends.later))

    module _ {t : RigState} {v : Writer} {T : Type 0} {r : Result T EmFault} (x : WritesAnew c t k v r) where
      gives_all : GivesFrame (list_blocks a l) a t
      gives_all = ending_released ending x.goes

      most_all : StaysWithin (held l) (held l + ceiling (length w.written) (payload_in s) + 1) s t
      most_all = record {
        is = omega (
          arith,
          unmoved.same.used,
          unmoved.same.most,
          ending.spends.used,
          ending.spends.most,
          w.runs.spends.used,
          w.runs.spends.most,
          x.costs.most,
          ending.finishes.blocks_is,
          answer_blocks,
        );
      }

    -- It couldn't be written anew,
    pub kept_unwritten : {t : RigState} {v : Writer} {T : Type 0} {e : EmFault}
        → WritesAnew {T = T} c t k v (Err e) → KeepsList asks s t l (record { writer = v }) (Err e)
    kept_unwritten {t} {v} {T} {e} x =
        let g = gives_all x in
        let goes = kept_goes g in
        let h = sound.shape.frames_low in
        let n : c.used ≡ s.used + ceiling (length w.written) (payload_in s) =
        omega (
          arith,
          unmoved.same.used,
          ending.spends.used,
          w.runs.spends.used,
          ending.finishes.blocks_is,
          answer_blocks,
        ) in
        record {
          goes = goes;
          frame = x.frame;
          kept = tt;
          records = length w.written;
          told = answer_few;
          few = rw (ending.finishes.count_is) at w.few;
          most = most_all x;
          owes = pays_more (pays_then paid_before (pays_of_owes 1 0 1 x.costs.owes (omega arith))
              x.goes.touches.moves) (omega arith);
          full = full_here e c.used c.blocks s.blocks
              (s.used + (ceiling (length w.written) (payload_in s) + 1)) x.full
              ((ending_gives ending).touches.blocks ∙ lends.touches.blocks) (omega (arith, n));
          cause = cause_after (list_blocks s l) s c t e (both_held).touches x.cause;
        }
      where
        full_here : (e : EmFault) (u n m q : ℕ) → OnFull e (u ≡ n) → n ≡ m → u < q → OnFull e (m < q)
        full_here DeviceFault u n m q f i j = tt
        full_here (Full used) u n m q f i j = omega (arith, f, i, j)
        full_here (Damaged block) u n m q f i j = tt

    -- or it was.
    pub kept_all : {t : RigState} {v : Writer} {T : Type 0} {y : T} → WritesAnew c t k v (Ok y)
        → KeepsList asks s t l (record { writer = v }) (Ok d)
    kept_all {t} {v} {T} {y} x =
        let g = gives_all x in
        let n = x.wrote in
        let ts = λ (z : IsTrue t.device.told). sym (kept_goes g).touches.told ∙ z in
        let stays : ChainStays c t d = chain_stays (chain_blocks c k) c t d x.goes.touches
        (λ z. session_others (chain_blocks c k) (chain_blocks c d) both_held
        (sym both_held.touches.told ∙ z)) w.is in
        let counts = n.count ∙ ending.finishes.count_is in
        record {
          goes = kept_goes g;
          frame = x.frame;
          kept = record {
            is = record {
              writer = n.is_full.is;
              packed = n.is_full.packed;
              filled_is = n.is_full.filled_is;
              few = omega (arith, is.few, counts);
            };
            commands = λ z. ap commands_in (n.items (told_c z) ∙ (commands_stay ending).items (told_b z)
                ∙ ending.finishes.items (lends.touches.told ∙ z)) ∙ lent_commands z;
            len = counts;
            chain = stays.is;
            items_are = λ z. stays.items (told_c z) ∙ w.items (told_b z) ∙ w.told (told_b z)
                ∙ records_are asks ending (lends.touches.told ∙ z)
                ∙ ap (records_for asks) (lent_commands z);
            packed = λ z. stays.packed (told_c z) (w.packed (told_b z));
            session = session_as (writer_blocks t v ++ chain_blocks t d)
                (session_then (chain_blocks c k) (writer_blocks t v) (chain_blocks c d) both_held n.session)
                (λ z. ap (λ (ks : List ℕ). writer_blocks t v ++ ks) (stays.blocks (told_c z)));
            used = omega (
              arith,
              unmoved.same.used,
              ending.spends.used,
              w.runs.spends.used,
              n.used,
              ending.finishes.blocks_is,
            );
            pays = pays_then paid_before n.pays x.goes.touches.moves;
          };
          records = length w.written;
          told = answer_few;
          few = rw (ending.finishes.count_is) at w.few;
          most = most_all x;
          owes = tt;
          full = tt;
          cause = tt;
        }
