-- Rows of blocks that are released.
use Rattle.std.proofs.Common.{◌≡◌, ℕ, zero, suc, ◌+◌, ◌-◌, ◌<◌, ◌≤◌, List, [], ◌∷◌, ◌++◌, length, refl, sym, ap, ◌∙◌, subst, arith, append_assoc, IsTrue}
use Rattle.em_record.specs.declared.record.Record.{Record}
use Rattle.em_frames.specs.Device.{block_at}
use Rattle.em_space.specs.Free.{header, linked_from, Off}
use Rattle.em_space.specs.Rig.{RigState, Sound, InUse, Touches, Goes}
use Rattle.em_space.specs.Held.{Holds, Apart, contents_of}
use Rattle.em_space.proofs.Steps.{same_frames_then, touches_after, touches_trans, touches_wider}
use Rattle.em_space.proofs.Held.{contents_kept, all_kept}
use Rattle.em_chain.specs.List.{IsRun, IsBlock, IsHeader, LinksTo}
use Rattle.em_chain.specs.Chain.{payload_in, chain_blocks}
use Rattle.em_chain.specs.Row.{row, IsRow, Drops, Discarding}
use Rattle.em_chain.specs.declared.chain.Chain.{Chain}
use Rattle.em_space.proofs.Apart.{off_right}
use Rattle.em_space.proofs.Lists.{apart_sym}
use Rattle.em_chain.proofs.Lists.{follow_all}
use Rattle.em_chain.proofs.Laws.{header_is, link_within}
use Rattle.em_chain.proofs.Keeps.{payload_kept}

-- the first block of a row
pub record RowHead (s : RigState) (link n : ℕ) : Type 0 where
  pub first : ℕ
  pub rest : List ℕ
  pub is : row s link (n + 1) ≡ first ∷ rest
  pub link_is : link ≡ first + 1
  pub in_use : InUse s first
  pub block : IsBlock (payload_in s) (block_at s.device first)
  pub run : IsRun (payload_in s) (header (block_at s.device first)).a rest (contents_of s rest)
  pub holds : Holds s (first ∷ rest)
  pub len : length rest ≡ n

row_by : (s : RigState) (link n : ℕ) (ks : List ℕ) → row s link (n + 1) ≡ ks → Holds s ks
    → IsRun (payload_in s) link ks (contents_of s ks) → length ks ≡ n + 1 → RowHead s link n
row_by s link n [] e h r l = absurd (omega arith)
row_by s link n (k ∷ ks) e h r l = record {
  first = k;
  rest = ks;
  is = e;
  link_is = r.0;
  in_use =
      h.in_use.0;
  block = r.1;
  run = r.2;
  holds = h;
  len = omega arith;
}

pub row_head : (s : RigState) (link n : ℕ) → IsRow s link (n + 1) → RowHead s link n
row_head s link n r = row_by s link n (row s link (n + 1)) refl r.holds r.run r.len

leads_by : (s : RigState) (a n : ℕ) (ks : List ℕ) → IsRun (payload_in s) a ks (contents_of s ks)
    → length ks ≡ n → (n ≡ 0 → a ≡ 0) × (0 < n → 0 < a)
leads_by s a n [] r e = (λ _. r, λ p. absurd (omega arith))
leads_by s a n (k ∷ ks) r e = let q = r.0 in (λ p. absurd (omega arith), λ _. omega arith)

-- how the first block leads on
pub row_leads : (s : RigState) (link n : ℕ) (h : RowHead s link n)
    → (n ≡ 0 → (header (block_at s.device h.first)).a ≡ 0) × (0 < n
    → 0 < (header (block_at s.device h.first)).a)
row_leads s link n h = leads_by s (header (block_at s.device h.first)).a n h.rest h.run h.len

-- the first block is released
pub row_drops : (s t : RigState) (link next n : ℕ) → IsRow s link (n + 1) → IsTrue s.device.told
    → Touches ((link - 1) ∷ []) s t → next ≡ (header (block_at s.device (link - 1))).a
    → Drops s t link next n
row_drops s t link next n r z h e =
    let o = row_head s link n r in
    let lk = o.link_is in
    let e1 : link - 1 ≡ o.first = omega arith in
    let apart : Apart o.rest ((link - 1) ∷ []) =
    rw e1 (apart_sym (o.first ∷ []) o.rest ((o.holds.distinct z).0, tt)) in
    let ck : contents_of t o.rest ≡ contents_of s o.rest =
    contents_kept ((link - 1) ∷ []) s t o.rest h z apart o.holds.in_use.1 in
    let en : next ≡ (header (block_at s.device o.first)).a = e
    ∙ ap (λ (j : ℕ). (header (block_at s.device j)).a) e1 in
    let run : IsRun (payload_in s) next o.rest (contents_of s o.rest) = rw en o.run in
    let run2 = rw (← ck) at run in
    let f : linked_from (length o.rest) t.device.contents next ≡ o.rest =
    follow_all (payload_in s) t.device.contents next o.rest run2 in
    let ln : row t next n ≡ o.rest = ap (λ (m : ℕ). linked_from m t.device.contents next)
    (sym o.len) ∙ f in
    let pt : payload_in t ≡ payload_in s = payload_kept ((link - 1) ∷ []) s t h in
    record {
      is = record {
        holds = rw ln (record {
          in_use = all_kept ((link - 1) ∷ []) s t o.rest h (λ _. apart) o.holds.in_use.1;
          distinct = λ _. (o.holds.distinct z).1;
        });
        run = rw (pt, ln) run2;
        len = rw ln o.len;
      };
      ends = record { gone = o.first ∷ []; is = rw (o.is, ln) refl };
    }

pub row_goes : {s m t : RigState} (link n : ℕ) → (IsTrue s.device.told → IsRow s link (n + 1))
    → Goes [] s m → Goes ((link - 1) ∷ []) m t → Goes (row s link (n + 1)) s t
row_goes {s} {m} {t} link n r g h = record {
  sound = h.sound;
  touches = touches_wider (row s link (n + 1)) ((link - 1) ∷ []) s t
      (touches_after ((link - 1) ∷ []) s m t g.touches h.touches) (λ z j u o.
      let p = row_head s link n (r z) in
      let lk = p.link_is in
      let e1 : link - 1 ≡ p.first = omega arith in
      let o2 : Off j (p.first ∷ p.rest) = subst (λ (ks : List ℕ). Off j ks) p.is o in
      rw e1 (o2.0, tt));
  frames = same_frames_then s.pool m.pool t.pool g.frames h.frames;
}

pub discard_goes : {s t u : RigState} {m : ℕ} (c : Chain) (link n : ℕ) → m ≡ n + 1
    → Discarding s t c link m → Goes (row t link (n + 1)) t u → Goes (chain_blocks s c) s u
discard_goes {s} {t} {u} c link n e h g = record {
  sound = g.sound;
  touches = touches_trans (chain_blocks s c) (row t link (n + 1)) s t u h.touches g.touches
      (λ z k i o.
      let a = rw e at (h.ends z) in
      let o2 : Off k (a.gone ++ row t link (n + 1)) = subst (λ (ks : List ℕ). Off k ks) a.is o in
      off_right k a.gone (row t link (n + 1)) o2);
  frames = same_frames_then s.pool t.pool u.pool h.frames g.frames;
}

pub discard_more : {s t u : RigState} {b : ℕ} (c : Chain) (link next n : ℕ) → b ≡ n + 1
    → Discarding s t c link b → Goes (row t link (n + 1)) t u
    → (IsTrue t.device.told → Drops t u link next n)
    → u.moves ≤ t.moves + 2 → u.used + 1 ≡ t.used → u.most ≡ t.most → Discarding s u c next n
discard_more {s} {t} {u} c link next n e h g d m q k =
    let td = h.touches.told in
    let hm = h.moves in
    let hu = h.used in
    let goes = discard_goes c link n e h g in
    record {
      sound = goes.sound;
      touches = goes.touches;
      frames = goes.frames;
      is_row = λ z. (d (td ∙ z)).is;
      ends = λ z.
          let a = rw e at (h.ends z) in
          let b = (d (td ∙ z)).ends in
          record {
            gone = a.gone ++ b.gone;
            is = a.is ∙ ap (λ (ks : List ℕ). a.gone ++ ks) b.is
                ∙ sym (append_assoc a.gone b.gone (row u next n));
          };
      moves = omega arith;
      used = omega arith;
      most = k ∙ h.most;
    }

none_left : (n : ℕ) → (0 < n → ⊥) → n ≡ 0
none_left zero h = refl
none_left (suc n) h = absurd (h (omega arith))

-- the header of the first block of a row, as it was loaded
pub row_passes : (s : RigState) (block left : ℕ) (b : List Record) (r : Record) (most blocks : ℕ)
    → Sound s → IsRow s (block + 1) (left + 1) → b ≡ block_at s.device block → r ≡ header b
    → most ≡ payload_in s → blocks ≡ s.blocks → LinksTo r.a left × IsHeader r most blocks
row_passes s block left b r most blocks so i e f m n =
    let o = row_head s (block + 1) left i in
    let lk = o.link_is in
    let e1 : block ≡ o.first = omega arith in
    let h : r ≡ header (block_at s.device o.first) = f ∙ ap (λ (x : List Record). header x) e
    ∙ ap (λ (j : ℕ). header (block_at s.device j)) e1 in
    let ha : r.a ≡ (header (block_at s.device o.first)).a = ap (λ (x : Record). x.a) h in
    let w = row_leads s (block + 1) left o in
    let u = o.holds.in_use.1 in
    let l = link_within s (payload_in s) _ o.rest (contents_of s o.rest) so o.run u in (
      (
        λ (q : r.a ≡ 0). none_left left (λ p. let d = w.1 p in omega arith),
        λ (q : left ≡ 0). ha ∙ w.0 q,
      ),
      rw (m, n) (header_is (payload_in s) s.blocks _ r o.block l h),
    )
