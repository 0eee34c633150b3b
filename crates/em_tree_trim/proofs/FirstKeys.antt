-- The key of the first record of a leaf, read while nothing is changed.
use Rattle.std.proofs.Common.{◌≡◌, ◌+◌, ◌≤◌, [], refl, sym, ◌∙◌, subst, arith, false, Option, Some, IfSome, Result, Ok, Err, IsErrAnd}
use Rattle.em_record.specs.declared.record.Record.{Record}
use Rattle.em_space.specs.Rig.{RigState, BlockCause, Goes}
use Rattle.em_space.specs.declared.fault.EmFault.{EmFault}
use Rattle.em_space.specs.declared.fault.EmFault.TheVariants.{DeviceFault, Full, Damaged}
use Rattle.em_space.proofs.Steps.{goes_nothing}
use Rattle.em_chain.specs.Effects.{GivesFrame, LendsFrame, Unmoved}
use Rattle.em_chain.specs.Reader.{reader_blocks, reader_items}
use Rattle.em_chain.specs.Reads.{Opens, ReadCosts, Reads}
use Rattle.em_chain.specs.declared.chain.Chain.{Chain}
use Rattle.em_chain.specs.declared.reader.Reader.{Reader}
use Rattle.em_chain.proofs.Beside.{goes_over}
use Rattle.em_chain.proofs.Keeps.{lent_given, lent_same, touches_between}
use Rattle.em_tree_walk.proofs.Readings.{cause_then}
use Rattle.em_tree_trim.specs.Listed.{KeyRead, ReadsKey, ReadsUpTo, StopsKey}

-- a fault of a call after which nothing was moved
cause_back : (s b t : RigState) (e : EmFault) → Unmoved b t → b.blocks ≡ t.blocks → BlockCause s b e → BlockCause s t e
cause_back s b t DeviceFault m k c = (let f : t.device.faults ≡ b.device.faults = faults_of m in omega (arith, f, c))
  where
    faults_of : Unmoved b t → t.device.faults ≡ b.device.faults
    faults_of u = rw (u.device) refl
cause_back s b t (Full used) m k c = c
cause_back s b t (Damaged block) m k c = (rw (m.device) c.0, omega (arith, k, c.1))

module _ {s a b t : RigState} {c : Chain} {r : Reader} (l : LendsFrame s a) (u : Unmoved s a)
    (o : Opens s a c false r) (g : Goes (reader_blocks a r) a b) (v : GivesFrame [] b t) (m : Unmoved b t) where
  over_goes : Goes [] s t
  over_goes =
      let h = goes_over a a b r o.taking_is (goes_nothing a l.sound) g in
      record {
        sound = v.sound;
        touches = touches_between [] l.touches h.touches v.touches;
        frames = lent_given s.pool b.pool t.pool (lent_same 1 s.pool a.pool b.pool l.frames h.frames) v.frames;
      }

  over_reads : b.used ≡ a.used → b.most ≡ a.most → b.moves ≤ a.moves + c.blocks → ReadsUpTo c.blocks s t
  over_reads used most few =
      let first = u.moves in
      let last = m.moves in
      record {
        goes = over_goes;
        used = m.same.used ∙ (used ∙ u.same.used);
        most = m.same.most ∙ (most ∙ u.same.most);
        moves = omega (arith, first, last, few);
      }

  -- It was read,
  pub key_read : (key : Record → Record) (q : Reader) (found : Option Record) (x k : Record)
      → IfSome found (λ y. Reads a b r q y) → ReadCosts a b r q (Ok found) → found ≡ Some x → k ≡ key x
      → KeyRead key s t c k
  key_read key q found x k h w e f =
      let n = w.moves in
      let owed = o.owed_is in
      let P : Option Record → Type 0 = λ p. IfSome p (λ y. Reads a b r q y) in
      let reads : Reads a b r q x = subst P e h in
      record {
        reads = over_reads (w.used_over o.taking_is) w.most (omega (arith, n, owed));
        is = λ z. record {
          first = x;
          others = reader_items b q;
          items = sym (o.items z) ∙ reads.items (l.touches.told ∙ z);
          key_is = f;
        };
      }

  -- or couldn't be.
  pub key_unread : (key : Record → Record) (q : Reader) (result : Result Record EmFault) (e : EmFault)
      → IsErrAnd result (λ f. f ≡ e) → ReadCosts {T = Option Record} a b r q (Err e) → BlockCause a b e
      → ReadsKey key s t c result
  key_unread key q (Ok x) e h w cause = absurd h
  key_unread key q (Err f) e h w cause =
      let n = w.moves_err in
      let owed = o.owed_is in
      let stops : StopsKey s t c e = record {
        reads = over_reads (w.used_over o.taking_is) w.most (omega (arith, n, owed));
        cause = cause_back s b t e m (sym v.touches.blocks) (cause_then s a b e l.touches.faults cause);
      } in
      subst (λ (d : EmFault). StopsKey s t c d) (sym h) stops
