use Rattle.aig_defs.specs.declared.form.Form.TheVariants.{Ascii, Binary}
use Rattle.aig_bin.proofs.EitherForm.{either_read}
use Rattle.aig_bin.proofs.either.read_either.Goals as goal

-- the ASCII form was read
pub returns-then-branch : goal.returns-then-branch
returns-then-branch g c =
    let e = c.read_ascii.ensures in
    record {
      reads = either_read (Ascii c.args.uninit) c.requires.none c.in_ok-read_magic.field-0 c.if-branch.true
          c.in_ok-read_magic.ensures.reads c.read_ascii.result (record {
            goes = e.goes;
            parts = e.parts;
            gives = e.gives;
            end = e.end;
            feed = e.feed;
            read = e.read;
            cause = e.cause;
            takes = e.takes;
            full = e.full;
            complete = e.complete;
            owes = e.owes;
          });
    }

-- the binary form was read
pub returns-else-branch : goal.returns-else-branch
returns-else-branch g c =
    let e = c.read_binary.ensures in
    record {
      reads = either_read (Binary c.args.uninit) c.requires.none c.in_ok-read_magic.field-0 c.if-branch.false
          c.in_ok-read_magic.ensures.reads c.read_binary.result (record {
            goes = e.goes;
            parts = e.parts;
            gives = e.gives;
            end = e.end;
            feed = e.feed;
            read = e.read;
            cause = e.cause;
            takes = e.takes;
            full = e.full;
            complete = e.complete;
            owes = e.owes;
          });
    }
