-- `write_header` makes the test of the definition, and the 44 bytes that it copies are the header. Assumes nothing.
use mathlib.Core.Path.{sym, ap, ◌∙◌}
use borrow.Author.Tests.{le-leb, lt-leb}
use Rattle.wave.specs.File.{put, told, header_told, header_in}
use Rattle.wave.proofs.Writes.{header_put}
use Rattle.wave.proofs.file.write_header.Goals as goal

pub returns-then-buffer-lt-HEADER_BYTES : goal.returns-then-buffer-lt-HEADER_BYTES
unfolding told header_told header_in
returns-then-buffer-lt-HEADER_BYTES c =
    record { answer = rw (lt-leb _ _ c.if-buffer-lt-HEADER_BYTES.true, header_told); bytes = rw (lt-leb _ _ c.if-buffer-lt-HEADER_BYTES.true, header_in) }

pub returns : goal.returns
unfolding told header_told
returns c =
    let room = c.if-buffer-lt-HEADER_BYTES.false in
    record {
      answer = rw (le-leb _ _ room, header_told);
      bytes = c.store.ensures
          ∙ ap (put c.args.buffer.now 0) c.header-bytes.ensures
          ∙ sym (header_put c.args.size c.args.rate c.args.n c.args.buffer.now room);
    }
