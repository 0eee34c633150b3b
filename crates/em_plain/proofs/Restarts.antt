-- The least record is taken out of a list: the list is finished, and read as a new one is written.
use Rattle.std.proofs.Common.{◌≡◌, ℕ, zero, suc, ◌<◌, ◌≤◌, min, List, [], ◌++◌, length, refl, sym, ap, ◌∙◌, subst, arith, IsTrue, Option, IfNone, option_to_list, true, Ok}
use Rattle.std.proofs.lemmas.List.{append-nil}
use Rattle.em_record.specs.Order.{in_order}
use Rattle.em_record.specs.Shape.{ShapeNumbers}
use Rattle.em_record.specs.declared.record.Record.{Record}
use Rattle.em_space.specs.Free.{Off}
use Rattle.em_space.proofs.Apart.{off_left}
use Rattle.em_space.specs.Queue.{Pays}
use Rattle.em_space.specs.Rig.{RigState, Touches, Goes}
use Rattle.em_space.proofs.Held.{apart_none}
use Rattle.em_space.proofs.Steps.{touches_trans, touches_then, same_frames_then}
use Rattle.em_space.proofs.Within.{within_then}
use Rattle.em_space.proofs.Paying.{pays_more, pays_then}
use Rattle.em_chain.specs.Chain.{chain_blocks}
use Rattle.em_chain.specs.Effects.{LendsFrame, GivesFrame, Unmoved}
use Rattle.em_chain.specs.Reader.{rest_of, reader_items}
use Rattle.em_chain.specs.Reads.{Opens}
use Rattle.em_chain.specs.Writer.{IsWriter, WriterStays, writer_blocks, writer_items, filled}
use Rattle.em_chain.specs.Writes.{Begins, Finishes, FinishCosts}
use Rattle.em_chain.specs.declared.chain.Chain.{Chain}
use Rattle.em_chain.specs.declared.reader.Reader.{Reader}
use Rattle.em_chain.specs.declared.writer.Writer.{Writer}
use Rattle.em_chain.proofs.Keeps.{has_kept, lent_given, touches_none}
use Rattle.em_chain.proofs.Laws.{writer_stays}
use Rattle.em_chain.proofs.Paying.{finish_pays, pays_unmoved}
use Rattle.em_chain.proofs.Writings.{writer_lent}
use Rattle.em_plain.specs.Least.{BeginsAnew, IsFull, Passed, TakesLeast}
use Rattle.em_plain.proofs.Frames.{given_lent, same_given}
use Rattle.em_plain.proofs.Least.{none_read}

-- with no record there is no block
pub none_full : (s : RigState) (w : Writer) → IsWriter s w → filled s w ≡ w.count → w.count ≡ 0
    → w.blocks ≡ 0
none_full s w i full none = none_by w.blocks (λ e. i.last.fill_low (i.last.some e))
  where
    none_by : (b : ℕ) → (0 < b → 1 ≤ w.fill) → b ≡ 0
    none_by zero low = refl
    none_by (suc b) low = let e = low (omega arith) in absurd (omega arith)

-- A writer with no record still has none.
pub begins_still : (s t : RigState) (w : Writer) → Begins s w → WriterStays s t w → Begins t w
begins_still s t w b st =
    let e = b.blocks in
    let none = b.is.last.none e in
    let skip = b.packed.is.skip_is in
    record {
      is = st.is;
      items = rw (e, none, skip) refl;
      held = rw (e, none) refl;
      packed = record { is = record { skip_is = skip; full = rw (e, none) tt } };
      tight = record { full = rw (e, none) tt };
      skip_is = b.skip_is;
      count = b.count;
      blocks = e;
      filled_is = st.filled_is ∙ b.filled_is;
    }

-- The steps up to the moment at which the list is read: a new writer was made, the list was
-- finished, and a reader was made that takes it.
pub record Restarts (s a b c : RigState) (w f : Writer) (chain : Chain) (r : Reader) : Type 0 where
  pub full : IsFull s w
  pub lends : LendsFrame s a
  pub unmoved : Unmoved s a
  pub begins : Begins a f
  pub gives : GivesFrame (writer_blocks a w) a b
  pub finishes : Finishes a b w chain
  pub costs : FinishCosts {T = Chain} a b w (Ok chain)
  pub lends_again : LendsFrame b c
  pub unmoved_again : Unmoved b c
  pub opens : Opens b c chain true r

-- the new writer, until the list is read
fresh_stays : (s a b c : RigState) (w f : Writer) (chain : Chain) (r : Reader)
    → Restarts s a b c w f chain r → WriterStays a c f
fresh_stays s a b c w f chain r h =
    let held = writer_blocks a w in
    writer_stays held a c f (touches_then held a b c h.gives.touches h.lends_again.touches)
    (λ z. rw h.begins.held tt)
    (has_kept 1 (length f.frame) a.pool c.pool
    (given_lent a.pool b.pool c.pool h.gives.frames h.lends_again.frames) h.begins.is.frame)
    h.begins.is

-- The new writer has no record, and the reader has all of the list.
pub begins_anew : (s a b c : RigState) (w f : Writer) (chain : Chain) (r : Reader)
    → Restarts s a b c w f chain r → BeginsAnew c r f chain.count
begins_anew s a b c w f chain r h =
    let n = begins_still a c f h.begins (fresh_stays s a b c w f chain r h) in
    let o = h.opens in
    let i = h.full in
    let none = λ (e : chain.count ≡ 0).
    none_full s w i.is i.filled_is (sym h.finishes.count_is ∙ e) in
    let counts = ap (λ (x : Chain). x.count) o.words in
    let blocks = ap (λ (x : Chain). x.blocks) o.words in
    record {
      begins = record {
        pair = record {
          reader = o.is;
          writer = n.is;
          taking = o.taking_is;
          apart = λ z. rw n.held tt;
        };
        items = n.items;
        held = n.held;
        packed = n.packed;
        count = n.count;
        blocks = n.blocks;
        filled_is = n.filled_is;
      };
      count_is = counts;
      none_left = λ e. blocks ∙ h.finishes.blocks_is ∙ none (sym counts ∙ e);
    }

-- the list's blocks were given to the reader
restart_blocks : (s a b c : RigState) (w f : Writer) (chain : Chain) (r : Reader)
    → Restarts s a b c w f chain r → IsTrue s.device.told
    → chain_blocks c (rest_of r) ≡ writer_blocks s w
restart_blocks s a b c w f chain r h z =
    let za = h.lends.touches.told ∙ z in
    let zb = h.gives.touches.told ∙ za in
    h.opens.blocks zb ∙ h.finishes.blocks za ∙ (writer_lent h.full.is h.lends).blocks z

restart_items : (s a b c : RigState) (w f : Writer) (chain : Chain) (r : Reader)
    → Restarts s a b c w f chain r → IsTrue s.device.told
    → reader_items c r ≡ writer_items s w
restart_items s a b c w f chain r h z =
    let za = h.lends.touches.told ∙ z in
    let zb = h.gives.touches.told ∙ za in
    h.opens.items zb ∙ h.finishes.items za ∙ (writer_lent h.full.is h.lends).items z

-- The list was finished, or its last block couldn't be stored.
pub finish_goes : (s a b : RigState) (w : Writer) → IsWriter s w → LendsFrame s a
    → GivesFrame (writer_blocks a w) a b → Goes (writer_blocks s w) s b
finish_goes s a b w i l g = record {
  sound = g.sound;
  touches = touches_trans (writer_blocks s w) (writer_blocks a w) s a b
      (touches_none (writer_blocks s w) s a l.touches) g.touches
      (λ z j u o. rw ((writer_lent i l).blocks z) o);
  frames = lent_given s.pool a.pool b.pool l.frames g.frames;
}

pub restart_touches : (s a b c : RigState) (w f : Writer) (chain : Chain) (r : Reader)
    → Restarts s a b c w f chain r → Touches (writer_blocks s w) s c
restart_touches s a b c w f chain r h = touches_then (writer_blocks s w) s b c
    (finish_goes s a b w h.full.is h.lends h.gives).touches h.lends_again.touches

-- What the reader has left may be changed.
pub take_goes : (s a b c d e : RigState) (w f : Writer) (chain : Chain) (r : Reader)
    → Restarts s a b c w f chain r → Goes (chain_blocks c (rest_of r)) c d → GivesFrame [] d e
    → Goes (writer_blocks s w) s e
take_goes s a b c d e w f chain r h g x = record {
  sound = x.sound;
  touches = touches_then (writer_blocks s w) s d e
      (touches_trans (writer_blocks s w) (chain_blocks c (rest_of r)) s c d
      (restart_touches s a b c w f chain r h) g.touches
      (λ z j u o. rw (restart_blocks s a b c w f chain r h z) o))
      x.touches;
  frames = same_frames_then s.pool b.pool e.pool
      (lent_given s.pool a.pool b.pool h.lends.frames h.gives.frames)
      (lent_given b.pool c.pool e.pool h.lends_again.frames
      (same_given c.pool d.pool e.pool g.frames x.frames));
}

-- The list's last block was stored, which wasn't before.
restart_pays : (s a b c : RigState) (w f : Writer) (chain : Chain) (r : Reader)
    → Restarts s a b c w f chain r → Pays (min w.blocks 1) 0 s c
restart_pays s a b c w f chain r h =
    pays_then (pays_then (pays_unmoved (min w.blocks 1) h.unmoved)
    (finish_pays a b w chain h.costs h.gives.touches.moves) h.gives.touches.moves)
    (pays_unmoved 0 h.unmoved_again) h.lends_again.touches.moves

-- The least record was taken out.
pub takes_least : (s a b c d e : RigState) (w f v : Writer) (chain : Chain) (r q : Reader)
    (item : Option Record) → Restarts s a b c w f chain r → Goes (chain_blocks c (rest_of r)) c d
    → GivesFrame [] d e → Unmoved d e → Passed c d r q f v item → TakesLeast s e w v item
takes_least s a b c d e w f v chain r q item h g x u p =
    let m = p.pairs in
    let n = begins_anew s a b c w f chain r h in
    let l = p.held in
    let goes = take_goes s a b c d e w f chain r h g x in
    let frames = goes.frames in
    let free = frames.free in
    let out = h.full.is.frame.out in
    let st = writer_stays [] d e v x.touches (λ z. apart_none (writer_blocks d v))
    (record {
      len_is = m.wrote.is.frame.len_is ∙ ap (λ (y : ShapeNumbers). y.block) (sym x.frames.shape);
      out = rw frames.shape (omega arith);
    }) m.wrote.is in
    let rt = restart_touches s a b c w f chain r h in
    let counts = ap (λ (y : Chain). y.count) h.opens.words in
    let blocks = ap (λ (y : Chain). y.blocks) h.opens.words in
    let wc = h.finishes.count_is in
    let wb = h.finishes.blocks_is in
    let left = m.took.left_is in
    let wrote = m.wrote.count_is in
    let w0 = n.begins.count in
    let b0 = n.begins.blocks in
    let all = p.all_read in
    let gone = m.took.none_left (λ e. n.none_left e) all in
    let used = m.runs.spends.used in
    let u1 = h.unmoved.same.used in
    let u2 = h.costs.only.same.used in
    let u3 = h.unmoved_again.same.used in
    let u4 = u.same.used in
    record {
      is_full = record {
        is = st.is;
        packed = λ z. let y : IsTrue d.device.told = sym x.touches.told ∙ z in
            st.packed y (m.wrote.packed (sym m.took.told ∙ y) n.begins.packed);
        filled_is = let k = m.wrote.filled_is in let k0 = n.begins.filled_is in let k1 = st.filled_is in
            omega arith;
      };
      items = λ z.
          let y = rt.told ∙ z in
          let x1 = m.took.told ∙ y in
          let e1 : reader_items c r ≡ p.read = m.took.items y
          ∙ ap (λ (ys : List Record). p.read ++ ys) (none_read d q m.took.is x1 p.all_read)
          ∙ append-nil p.read in
          let e2 : writer_items e v ≡ p.written = st.items x1 ∙ m.wrote.items y
          ∙ ap (λ (ys : List Record). ys ++ p.written) n.begins.items in
          ap in_order (sym (restart_items s a b c w f chain r h z) ∙ e1) ∙ p.order
          ∙ ap (λ (ys : List Record). option_to_list item ++ in_order ys) (sym e2);
      count = omega arith;
      none = subst (λ (n : ℕ). IfNone item (n ≡ 0)) (counts ∙ wc) p.none;
      within = within_then s c (writer_blocks s w) (chain_blocks c (rest_of r)) (writer_blocks e v)
          rt (record { off = λ z j i o. rw (restart_blocks s a b c w f chain r h z) o })
          (record {
            off = λ z j i o. rw (st.blocks (m.took.told ∙ z)) (off_left j (writer_blocks d v)
                (chain_blocks d (rest_of q)) (m.runs.session.within.off z j i
                (subst (λ (ks : List ℕ). Off j (ks ++ chain_blocks c (rest_of r)))
                (sym n.begins.held) o)));
          });
      used = omega arith;
      pays =
          let k = min v.blocks 1 in
          let p : Pays 0 k c d = pays_more m.runs.spends.pays (omega arith) in
          pays_then (pays_then (restart_pays s a b c w f chain r h) p g.touches.moves)
          (pays_unmoved k u) x.touches.moves;
    }
