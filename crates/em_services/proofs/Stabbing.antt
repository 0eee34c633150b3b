-- An interval list as a service: what its calls leave.
use Rattle.std.proofs.Common.{◌≡◌, ◌+◌, List, [], ◌∷◌, ◌++◌, ap, refl, arith, inr, Some, Result, Ok, Err, IsOk, OnOk, OnErr, IfOk, IfErr, ◌<◌, append_assoc, length, subst, ◌∙◌, IsTrue}
use Rattle.std.proofs.lemmas.List.{length-append}
use Rattle.em_model.specs.declared.command.Command.{Command}
use Rattle.em_space.specs.Queue.{Pays}
use Rattle.em_space.specs.Rig.{Cause, RigState, Sound}
use Rattle.em_space.specs.declared.fault.EmFault.{EmFault}
use Rattle.em_space.proofs.Paying.{pays_more}
use Rattle.em_space.proofs.Runs.{runs_goes}
use Rattle.em_chain.specs.Effects.{Unmoved}
use Rattle.em_chain.specs.Writer.{IsWriter, writer_blocks}
use Rattle.em_chain.specs.declared.writer.Writer.{Writer}
use Rattle.em_segment.specs.Stabs.{HasCommands, IsNewStab, IsStab, LeavesStab, StabHasFrames, TakeCosts, TakesTo, stab_blocks, FullOverRoom as StabFullOverRoom, stab_account, stab_len}
use Rattle.em_segment.specs.declared.stab.Stab.{Stab}
use Rattle.em_tree_cost.specs.Shares.{stab_share, stab_room}
use Rattle.em_map.specs.Areas.{KeepsAreas}
use Rattle.em_services.specs.Service.{GivesFrames, MakesService, TakesCommand, WithinAllowance, FullOverRoom, WithinRoom}
use Rattle.em_services.specs.StabLaws.{rising}
use Rattle.em_services.specs.StabService.{stab_counts}
use Rattle.em_map.proofs.Areas.{given_singles, goes_on}
use Rattle.em_services.proofs.Areas.{one_more, within_more}
use Rattle.em_model.specs.StabAnswers.{stab_pairs}
use Rattle.em_record.specs.Cost.{room}
use Rattle.em_tree_walk.proofs.Losses.{writer_length}
use Rattle.em_ready.proofs.RoomLaws.{stabs_room, when_full}

-- a list that counts no block has none
no_blocks : (t : RigState) (w : Writer) → IsWriter t w → w.blocks ≡ 0 → writer_blocks t w ≡ []
no_blocks t w i none = rw (none, i.last.none none) refl

new_blocks : (s t : RigState) (v : Stab) → IsNewStab s t v → stab_blocks t v ≡ []
new_blocks s t v n =
    let none = n.blocks in
    rw (
      no_blocks t v.intervals n.is.intervals.writer (omega (arith, none)),
      no_blocks t v.stabs n.is.stabs.writer (omega (arith, none)),
    ) refl

-- a list holds as many blocks as it counts
pub list_length : (s : RigState) (v : Stab) → IsStab s v → IsTrue s.device.told
    → length (stab_blocks s v) ≡ (stab_account v).blocks
list_length s v i z =
    let pieces = writer_length i.intervals.writer z in
    let points = writer_length i.stabs.writer z in
    let both = length-append (writer_blocks s v.intervals) (writer_blocks s v.stabs) in
    omega (arith, pieces, points, both)

-- An interval list was made,
pub made : (s t : RigState) (result : Result Stab EmFault) → IfOk result (IsNewStab s t)
    → IfOk result (λ v. MakesService (Some stab_share) (Some room) 2 (stab_blocks t v) (stab_counts v) s t)
made s t (Ok v) n = record {
  sound = n.sound;
  touches = n.touches;
  frames_are = n.frames;
  within = record { off = λ z j u o. rw (new_blocks s t v n) tt };
  n = n.none.len;
  syncs = refl;
  pays = record {
    is = let used = n.unmoved.same.used in
        let moves = n.unmoved.moves in inr (omega (arith, used, moves));
  };
  used = λ z.
      let none = ap length (new_blocks s t v n) in
      let used = n.unmoved.same.used in omega (arith, none, used);
  spent = let moves = n.unmoved.moves in omega (arith, moves);
}
made s t (Err fault) n = tt

pub made_is : (s t : RigState) (result : Result Stab EmFault) → IfOk result (IsNewStab s t)
    → IfOk result (IsStab t)
made_is s t (Ok v) n = n.is
made_is s t (Err fault) n = tt

pub made_none : (s t : RigState) (result : Result Stab EmFault) → IfOk result (IsNewStab s t)
    → IfOk result (λ v. HasCommands t v [])
made_none s t (Ok v) n = n.none
made_none s t (Err fault) n = tt

-- with no move,
pub made_moves : (s t : RigState) (result : Result Stab EmFault) → IsOk result
    → IfOk result (IsNewStab s t) → WithinAllowance (Some stab_share) 0 0 (λ shape. 0) s t
made_moves s t (Ok v) ok n = λ z. let moves = n.unmoved.moves in omega (arith, moves)
made_moves s t (Err fault) ok n = cc

-- and no block,
pub made_room : (s t : RigState) (result : Result Stab EmFault) → IsOk result
    → IfOk result (IsNewStab s t) → WithinRoom (Some room) 0 [] s t
made_room s t (Ok v) ok n = λ z. let most = n.unmoved.same.most in record { is = omega (arith, most) }
made_room s t (Err fault) ok n = cc

-- which never fails.
pub made_surely : (P : Type 0) (result : Result Stab EmFault) → IsOk result → OnErr result P
made_surely P (Ok v) ok = tt
made_surely P (Err fault) ok = cc

pub made_by : (P : EmFault → Type 0) (result : Result Stab EmFault) → IsOk result → IfErr result P
made_by P (Ok v) ok = tt
made_by P (Err fault) ok = cc

-- A command was given to it, with at most the moves of its share,
counted_moves : (s t : RigState) (v : Stab) → TakeCosts s t v
    → WithinAllowance (Some stab_share) ((stab_counts v).n + 1) (stab_counts v).syncs (stab_counts v).spent s t
counted_moves s t v costs = λ z. let share = costs.share in omega (arith, share)

pub take_moves : (c : Command) (s t : RigState) (v : Stab) → Sound s → TakeCosts s t v → (before cs : List Command)
    → HasCommands s v (before ++ cs)
    → WithinAllowance (Some stab_share)
    (length (before ++ cs ++ c ∷ []) + length (stab_pairs (before ++ cs ++ c ∷ []))) (stab_counts v).syncs
    (stab_counts v).spent s t
take_moves c s t v sound costs before cs h =
    let one = one_more (stab_len v) before cs c h.len in
    within_more (Some stab_share) (stab_len v + 1)
    (length (before ++ cs ++ c ∷ []) + length (stab_pairs (before ++ cs ++ c ∷ []))) (stab_counts v).syncs
    (stab_counts v).spent s t rising sound.shape (omega (arith, one)) (counted_moves s t v costs)

-- and at most the blocks of its room,
pub take_room : (s t : RigState) (v : Stab) → Sound s → IsStab s v → TakeCosts s t v
    → WithinRoom (Some room) ((stab_counts v).n + 1) (stab_blocks s v) s t
take_room s t v sound i costs = λ z.
    let most = costs.room in
    let own = list_length s v i z in
    let wide = stabs_room s.pool.shape (stab_len v + 1) sound.shape in
    record { is = omega (arith, most, own, wide) }

pub take_full : {T : Type 0} (s : RigState) (v : Stab) (result : Result T EmFault) → Sound s
    → IsStab s v → StabFullOverRoom s v result
    → IfErr result (FullOverRoom (Some room) ((stab_counts v).n + 1) (stab_blocks s v) s)
take_full s v (Ok x) sound i over = tt
take_full s v (Err fault) sound i over = λ z.
    let own = list_length s v i z in
    let wide = stabs_room s.pool.shape (stab_len v + 1) sound.shape in
    when_full fault
    (λ used. used + (stab_account v).blocks < s.used + stab_room s.pool.shape (stab_len v + 1))
    (λ used. used + length (stab_blocks s v) < s.used + room s.pool.shape (stab_len v + 1))
    (λ used less. omega (arith, less, own, wide)) over

-- or the call gave up.
module _ (T : Type 0) (c : Command) (s t : RigState) (v w : Stab) where
  pub take_goes : (result : Result T EmFault) → TakesTo c s t v w result
      → KeepsAreas 0 0 (stab_blocks s v) s t
  take_goes (Ok x) h = goes_on 0 (stab_blocks s v) s t (runs_goes h.runs)
  take_goes (Err fault) h = goes_on 0 (stab_blocks s v) s t h.stops.goes

  pub take_frames : (result : Result T EmFault) → TakesTo c s t v w result → StabHasFrames t w
  take_frames (Ok x) h = h.is.frames
  take_frames (Err fault) h = h.frames

  pub take_is : (result : Result T EmFault) → TakesTo c s t v w result
      → OnOk result (IsStab t w)
  take_is (Ok x) h = h.is
  take_is (Err fault) h = tt

  pub take_has : (result : Result T EmFault) → TakesTo c s t v w result
      → OnOk result ((before cs : List Command) → HasCommands s v (before ++ cs)
      → HasCommands t w (before ++ (cs ++ c ∷ [])))
  take_has (Ok x) h = λ before cs k.
      subst (λ (xs : List Command). HasCommands t w xs) (append_assoc before cs (c ∷ [])) (h.commands (before ++ cs) k)
  take_has (Err fault) h = tt

  pub takes : (result : Result T EmFault) → TakesTo c s t v w result → IsStab s v
      → OnOk result (TakesCommand (Some stab_share) (Some room) 0 (stab_blocks s v) (stab_blocks t w)
      (stab_counts v) (stab_counts w) s t)
  takes (Ok x) h i = record {
    within = h.runs.session.within;
    n =
        let more = (h.commands i.given i.has).len in
        let before = i.has.len in
        let one = length-append i.given (c ∷ []) in omega (arith, more, before, one);
    syncs = refl;
    pays = h.runs.spends.pays;
    used = λ z.
        let used = h.runs.spends.used in
        let before = list_length s v i z in
        let after = list_length t w h.is (h.runs.session.touches.told ∙ z) in
        omega (arith, used, before, after);
    spent = λ z. let moves = h.runs.spends.moves in omega (arith, moves);
  }
  takes (Err fault) h i = tt

  pub take_owes : (result : Result T EmFault) → TakesTo c s t v w result → Sound s
      → OnErr result (Pays (stab_counts v).unstored s.pool.shape.frames s t)
  take_owes (Ok x) h sound = tt
  take_owes (Err fault) h sound =
      let low = sound.shape.frames_low in pays_more h.stops.halts.pays (omega (arith, low))

  pub take_cause : (result : Result T EmFault) → TakesTo c s t v w result
      → IfErr result (Cause s t)
  take_cause (Ok x) h = tt
  take_cause (Err fault) h = h.stops.cause

-- It was abandoned.
pub left_gives : (s t : RigState) → LeavesStab s t → GivesFrames 2 0 [] s t
left_gives s t l = record {
  sound = l.sound;
  touches = l.touches;
  frames_are = given_singles 2 s.pool t.pool l.frames;
}

pub left_unmoved : (s t : RigState) → LeavesStab s t → Unmoved s t
left_unmoved s t l = record {
  device = ap (λ (x : RigState). x.device) l.same;
  spare = ap (λ (x : RigState). x.spare) l.same;
  same = record {
    head = ap (λ (x : RigState). x.head) l.same;
    used = ap (λ (x : RigState). x.used) l.same;
    most = ap (λ (x : RigState). x.most) l.same;
  };
  moves = ap (λ (x : RigState). x.moves) l.same;
}
