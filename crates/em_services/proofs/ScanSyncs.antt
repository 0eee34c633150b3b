-- A sync of a map that is a list of its commands.
use Rattle.std.proofs.Common.{◌≡◌, ℕ, ◌+◌, ◌≤◌, List, [], ◌∷◌, ◌++◌, length, length-append, length-drop, append-nil, ap, sym, ◌∙◌, arith, IsTrue, Some, None, Result, Ok, Err, OnOk, IfOk, IfErr}
use Rattle.std.proofs.lemmas.List.{length-map}
use Rattle.em_record.specs.Shape.{payload_of}
use Rattle.em_model.specs.MapAnswers.{answers_after}
use Rattle.em_model.specs.declared.command.Command.{Command}
use Rattle.em_model.specs.declared.command.Command.TheVariants.{Sync}
use Rattle.em_space.specs.Ledger.{Session}
use Rattle.em_space.specs.Rig.{RigState, Sound}
use Rattle.em_space.specs.declared.fault.EmFault.{EmFault}
use Rattle.em_space.specs.declared.fault.EmFault.TheVariants.{DeviceFault, Full, Damaged}
use Rattle.em_space.proofs.Apart.{off_append, off_left, off_right}
use Rattle.em_space.proofs.Lists.{apart_sym, distinct_apart, distinct_join, distinct_left, distinct_right, in_use_append, in_use_left, in_use_right}
use Rattle.em_chain.specs.Chain.{chain_blocks, chain_items}
use Rattle.em_chain.specs.Counts.{ceiling}
use Rattle.em_chain.specs.List.{items_in}
use Rattle.em_chain.specs.Writer.{writer_contents, writer_items}
use Rattle.em_chain.specs.declared.chain.Chain.{Chain}
use Rattle.em_chain.proofs.Sessions.{ceiling_rises}
use Rattle.em_plain.specs.Command.{command_in}
use Rattle.em_plain.specs.CommandList.{IsCommandList, held, list_blocks, list_commands, list_len}
use Rattle.em_plain.specs.Room.{plain_room}
use Rattle.em_plain.specs.ScanMap.{IsScanMap, Syncs, before_of, commands_of, due_of, since_of}
use Rattle.em_plain.specs.declared.command_list.CommandList.{CommandList}
use Rattle.em_plain.specs.declared.scan_map.ScanMap.{ScanMap}
use Rattle.em_tree_walk.proofs.Losses.{writer_length}
use Rattle.em_services.specs.ScanService.{HoldsParts, list_counts}
use Rattle.em_services.specs.Service.{FullOverRoom, GivesAtSync, WithinRoom}
use Rattle.em_services.proofs.AnswerOrder.{records_few}
use Rattle.em_services.proofs.Scanning.{due_parts, list_held}
use Rattle.em_settle.specs.Add.{apply_of}

-- two values of a session, the other one first
pub session_swapped : {held : List ℕ} {s t : RigState} (xs ys : List ℕ) → Session held s t (xs ++ ys)
    → Session held s t (ys ++ xs)
session_swapped {held} {s} {t} xs ys h = record {
  sound = h.sound;
  touches = h.touches;
  within = record {
    off = λ z j u o.
        let both = h.within.off z j u o in
        off_append j ys xs (off_right j xs ys both) (off_left j xs ys both);
  };
  holds = λ z.
      let both = h.holds z in
      record {
        in_use = in_use_append t ys xs (in_use_right t xs ys both.in_use) (in_use_left t xs ys both.in_use);
        distinct = λ told.
            let d = both.distinct told in
            distinct_join ys xs (distinct_right xs ys d) (distinct_left xs ys d)
            (apart_sym xs ys (distinct_apart xs ys d));
      };
}

-- as many commands as the list counts
commands_length : (s : RigState) (l : CommandList) → IsCommandList s l → IsTrue s.device.told
    → length (list_commands s l) ≡ list_len l
commands_length s l i z =
    let w = l.writer in
    let count = (i.writer.told z).list.count_is in
    let left = length-drop w.skip (items_in (writer_contents s w)) in
    let same = length-map (writer_items s w) command_in in
    omega (arith, count, left, same)

module _ {F : Type 0} (s t : RigState) (m n : ScanMap F) (sound : Sound s) (i : IsScanMap s m) where
  pub sync_is : (result : Result Chain EmFault) → Syncs s t m n result → OnOk result (IsScanMap t n)
  sync_is (Ok c) h = h.answers.is
  sync_is (Err fault) h = tt

  pub sync_has : (result : Result Chain EmFault) → Syncs s t m n result
      → OnOk result ((before cs : List Command) → HoldsParts s m before cs
      → HoldsParts t n (before ++ cs ++ Sync ∷ []) [])
  sync_has (Ok c) h = λ before cs k.
      let a = h.answers in
      let more = a.len in
      let old = k.all.n in
      let one = length-append (before ++ cs) (Sync ∷ []) in
      let len : list_len n.list ≡ length (before ++ cs ++ Sync ∷ []) = omega (arith, more, old, one) in
      record {
        all = record {
          n = len ∙ ap (λ (xs : List Command). length xs) (sym (append-nil (before ++ cs ++ Sync ∷ [])));
          commands = λ told.
              let z : IsTrue s.device.told = sym h.goes.touches.told ∙ told in
              a.commands z ∙ ap (λ (xs : List Command). xs ++ Sync ∷ []) (k.all.commands z)
              ∙ sym (append-nil (before ++ cs ++ Sync ∷ []));
        };
        answered = a.all ∙ len;
      }
  sync_has (Err fault) h = tt

  pub sync_gives : (result : Result Chain EmFault) → Syncs s t m n result
      → IfOk result (GivesAtSync None (Some plain_room) (list_blocks s m.list) (list_blocks t n.list)
      (list_counts m.list) (list_counts n.list) s t)
  sync_gives (Ok c) h =
      let a = h.answers in
      record {
        is = a.chain;
        packed = a.packed;
        session = session_swapped (list_blocks t n.list) (chain_blocks t c) a.session;
        n = a.len;
        syncs = tt;
        pays = a.pays;
        used = λ z.
            let used = a.used in
            let before = writer_length i.list.writer z in
            let after = writer_length a.is.list.writer (h.goes.touches.told ∙ z) in
            omega (arith, used, before, after);
        spent = λ z. tt;
      }
  sync_gives (Err fault) h = tt

  pub sync_items : (result : Result Chain EmFault) → Syncs s t m n result
      → IfOk result (λ c. IsTrue s.device.told → (before cs : List Command) → HoldsParts s m before cs
      → chain_items t c ≡ answers_after (apply_of m.settle.kind) before cs)
  sync_items (Ok c) h = λ z before cs k. h.answers.items_are z ∙ due_parts s m before cs k z
  sync_items (Err fault) h = tt

  pub sync_room : (result : Result Chain EmFault) → Syncs s t m n result
      → WithinRoom (Some plain_room) (list_len m.list + 1) (list_blocks s m.list) s t
  sync_room result h = λ z.
      let own = writer_length i.list.writer z in
      let most = h.most.is in
      record { is = omega (arith, own, most) }

  -- The list, its answers and two blocks are within the room of a command more.
  fits : IsTrue s.device.told → held m.list + (ceiling (length (due_of s m)) (payload_of s.pool.shape) + 2)
      ≤ plain_room s.pool.shape (list_len m.list + 1)
  fits z =
      let own = list_held s m.list sound i.list in
      let low = sound.shape.block_low in
      let p = payload_of s.pool.shape in
      let few = records_few (apply_of m.settle.kind) (before_of s m) (since_of s m) in
      let left = length-drop m.answered (commands_of s m) in
      let all = commands_length s m.list i.list z in
      let one = ceiling_rises (list_len m.list) (list_len m.list + 1) p (omega (arith, low)) (omega arith) in
      let two = ceiling_rises (length (due_of s m)) (list_len m.list + 1) p (omega (arith, low))
      (omega (arith, few, left, all)) in
      omega (arith, own, one, two)

  pub sync_full : (result : Result Chain EmFault) → Syncs s t m n result
      → IfErr result (FullOverRoom (Some plain_room) (list_len m.list + 1) (list_blocks s m.list) s)
  sync_full (Ok c) h = tt
  sync_full (Err DeviceFault) h = λ z. tt
  sync_full (Err (Full used)) h = λ z.
      let own = writer_length i.list.writer z in
      let over = h.full_if_few z in
      let cause = h.cause in
      let same = h.goes.touches.blocks in
      let room = fits z in
      omega (arith, own, over, cause.0, same, room)
  sync_full (Err (Damaged block)) h = λ z. tt
