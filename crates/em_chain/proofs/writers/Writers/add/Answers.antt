use Rattle.std.proofs.Common.{ℕ, ◌<◌, Some, refl, ap, ◌∙◌, set, length}
use Rattle.em_chain.specs.declared.member.MemberWords.{MemberWords}
use Rattle.em_chain.specs.Writers.{no_words}
use Rattle.em_chain.proofs.WritersMaking.{joined_is}
use Rattle.em_chain.proofs.WritersMembers.{place_empty}
use Rattle.em_chain.proofs.writers.Writers.add.Goals as goal

pub put-requires : goal.put-requires
put-requires g c =
    let lt : length c.args.self.now.words.items < length c.args.self.now.rack =
    rw (c.requires.is.has.places) c.requires.room in
    rw (c.len-at.ensures.value)
    (place_empty _ c.args.self.now.words.items c.args.self.now.rack c.requires.is.has.filled_by lt)

pub returns-clause-adds : goal.returns-clause-adds
returns-clause-adds g c =
    let m : MemberWords = record {
      head = c.args.chain.head;
      skip = c.args.chain.skip;
      tail = c.args.chain.tail;
      count = c.args.chain.count;
      blocks = c.args.chain.blocks;
      fill = 0;
      touched = no_words.touched;
    } in
    joined_is {m = m} {f = c.lend-frame.result} (record {
      is = c.requires.is;
      chain = c.requires.chain;
      apart = c.requires.apart;
      free = c.requires.free;
      most = c.lend-frame.ensures.most;
      room = c.requires.room;
      lent_is = c.lend-frame.ensures.lent;
      len = c.lend-frame.ensures.len;
      seat = refl;
      members = c.push.ensures.items;
      rack = c.put.ensures
          ∙ ap (λ (n : ℕ). set c.args.self.now.rack n
          (Some c.lend-frame.result)) c.len-at.ensures.value;
    })
