-- What a chain is besides a view, and what calls keep of views.
use Rattle.std.proofs.Common.{◌≡◌, ℕ, List, [], ◌∷◌, refl, sym, ap, ◌∙◌, IsTrue}
use Rattle.em_record.specs.declared.record.Record.{Record}
use Rattle.em_space.specs.Free.{header, linked_from}
use Rattle.em_space.specs.Rig.{RigState, Touches}
use Rattle.em_space.specs.Held.{Apart, contents_of}
use Rattle.em_space.proofs.Held.{holds_kept, contents_kept}
use Rattle.em_chain.specs.List.{IsRun, IsRunOpen, last_link}
use Rattle.em_chain.specs.Chain.{payload_in, IsChain, IsPacked, IsTight, chain_blocks, chain_contents}
use Rattle.em_chain.specs.View.{IsView, ViewStays}
use Rattle.em_chain.specs.declared.chain.Chain.{Chain}
use Rattle.em_chain.proofs.Keeps.{payload_kept}
use Rattle.em_chain.proofs.Lists.{follow_open, run_open}

-- the link of the last block, or the first link if there is no block
abbrev pub link_after : ℕ → List (List Record) → ℕ
link_after link [] = link
link_after link (c ∷ cs) = link_after (header c).a cs

-- The last block leads to none, and the word for it is right: what makes a chain of a view.
pub record Closes (head tail : ℕ) (ks : List ℕ) (cs : List (List Record)) : Type 0 where
  pub leads : link_after head cs ≡ 0
  pub last : last_link ks ≡ tail

run_ends : (p link : ℕ) (ks : List ℕ) (cs : List (List Record)) → IsRun p link ks cs
    → link_after link cs ≡ 0
run_ends p link [] [] h = h
run_ends p link [] (c ∷ cs) h = absurd h
run_ends p link (k ∷ ks) [] h = absurd h
run_ends p link (k ∷ ks) (c ∷ cs) h = run_ends p (header c).a ks cs h.2

run_closed : (p link : ℕ) (ks : List ℕ) (cs : List (List Record)) → IsRunOpen p link ks cs
    → link_after link cs ≡ 0 → IsRun p link ks cs
run_closed p link [] [] h e = e
run_closed p link [] (c ∷ cs) h e = absurd h
run_closed p link (k ∷ ks) [] h e = absurd h
run_closed p link (k ∷ ks) (c ∷ cs) h e = (h.0, h.1, run_closed p (header c).a ks cs h.2 e)

-- Every chain is a view,
pub view_of : (s : RigState) (c : Chain) → IsChain s c → IsView s c
view_of s c i = record {
  count_most = i.count_most;
  blocks_most = i.blocks_most;
  told = λ z.
      let l = (i.told z).list in
      record {
        holds = (i.told z).holds;
        list = record {
          run = run_open (payload_in s) c.head (chain_blocks s c) (chain_contents s c) l.run;
          blocks_is = l.blocks_is;
          count_is = l.count_is;
          skip_fits = l.skip_fits;
        };
      };
}

-- and closes;
pub closes : (s : RigState) (c : Chain) → IsChain s c → IsTrue s.device.told
    → Closes c.head c.tail (chain_blocks s c) (chain_contents s c)
closes s c i z = record {
  leads = run_ends (payload_in s) c.head (chain_blocks s c) (chain_contents s c)
      (i.told z).list.run;
  last = (i.told z).list.tail_is;
}

-- a view that closes is a chain.
pub chain_by : (s : RigState) (c : Chain) → IsView s c → (IsTrue s.device.told
    → Closes c.head c.tail (chain_blocks s c) (chain_contents s c)) → IsChain s c
chain_by s c i k = record {
  count_most = i.count_most;
  blocks_most = i.blocks_most;
  told = λ z.
      let l = (i.told z).list in
      record {
        holds = (i.told z).holds;
        list = record {
          run = run_closed (payload_in s) c.head (chain_blocks s c) (chain_contents s c) l.run
              (k z).leads;
          blocks_is = l.blocks_is;
          tail_is = (k z).last;
          count_is = l.count_is;
          skip_fits = l.skip_fits;
        };
      };
}

-- packed is tight with nothing passed over
pub packs : {s t : RigState} {c d : Chain} → d.skip ≡ c.skip → (IsTight s c → IsTight t d)
    → IsPacked s c → IsPacked t d
packs e f g = record {
  is = record { skip_is = e ∙ g.is.skip_is; full = (f (record { full = g.is.full })).full };
}

-- A view over a call that leaves its blocks alone.
view_blocks_kept : (held : List ℕ) (s t : RigState) (c : Chain) → Touches held s t
    → IsTrue s.device.told → Apart (chain_blocks s c) held → IsView s c
    → chain_blocks t c ≡ chain_blocks s c
view_blocks_kept held s t c h z a i =
    let u = i.told z in
    let ck : contents_of t (chain_blocks s c) ≡ chain_contents s c =
    contents_kept held s t (chain_blocks s c) h z a u.holds.in_use in
    let run = rw (← ck) at u.list.run in
    ap (λ (n : ℕ). linked_from n t.device.contents c.head) (sym u.list.blocks_is)
    ∙ follow_open (payload_in s) t.device.contents c.head (chain_blocks s c) run

pub view_stays : (held : List ℕ) (s t : RigState) (c : Chain) → Touches held s t
    → (IsTrue s.device.told → Apart (chain_blocks s c) held) → IsView s c → ViewStays s t c
view_stays held s t c h a i =
    let eb = λ (z : IsTrue s.device.told). view_blocks_kept held s t c h z (a z) i in
    let ec = λ (z : IsTrue s.device.told). contents_kept held s t (chain_blocks s c) h z (a z)
    (i.told z).holds.in_use in
    let pt : payload_in t ≡ payload_in s = payload_kept held s t h in
    let v : IsView t c = record {
      count_most = i.count_most;
      blocks_most = i.blocks_most;
      told = λ y. let z : IsTrue s.device.told = sym h.told ∙ y in
          let v = holds_kept held s t (chain_blocks s c) h a (i.told z).holds in
          record { holds = rw (eb z) v; list = rw (pt, eb z, ec z) (i.told z).list };
    } in
    record {
      is = v;
      items = λ z. rw (eb z, ec z) refl;
      blocks = eb;
      tight = λ z g. record { full = rw (pt, eb z, ec z) g.full };
      closed = λ k. chain_by t c v (λ y. let z : IsTrue s.device.told = sym h.told ∙ y in
          rw (eb z, ec z) (closes s c k z));
    }
