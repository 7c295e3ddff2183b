-- The parts of an event are put one after the other.
use Rattle.std.proofs.Common.{◌≡◌, ◌++◌, ℕ, List, append_assoc, arith}
use Rattle.std.specs.Prelude.{codes, decimal}
use Rattle.st_text.specs.Spelling as spelled
use Rattle.st_text.proofs.spell.put_event.Goals as goal

-- eight pieces, one after the other
whole : (old w h s c x v z b1 b2 b3 b4 b5 b6 b7 b8 : List ℕ) → b1 ≡ old ++ w → b2 ≡ b1 ++ h
    → b3 ≡ b2 ++ s
    → b4 ≡ b3 ++ c → b5 ≡ b4 ++ x → b6 ≡ b5 ++ c → b7 ≡ b6 ++ v → b8 ≡ b7 ++ z
    → b8 ≡ old ++ (w ++ h ++ s ++ c ++ x ++ c ++ v ++ z)
whole old w h s c x v z b1 b2 b3 b4 b5 b6 b7 b8 e1 e2 e3 e4 e5 e6 e7 e8 =
    rw (e8, e7, e6, e5, e4, e3, e2, e1) (simp append_assoc)

pub returns : goal.returns
returns c =
    let e = c.args.event.now in
    record {
      items =
          whole c.args.buffer.now.items (codes "{seq_trace,") (spelled.head e)
          (spelled.serial e.serial)
          (codes ",") (spelled.ends e) (decimal e.value) (codes "}}")
          c.put_bytes.new.buffer.items c.put_head.new.buffer.items c.put_serial.new.buffer.items
          c.put_bytes-2.new.buffer.items c.put_ends.new.buffer.items c.put_bytes-3.new.buffer.items
          c.put_number.new.buffer.items c.put_bytes-4.new.buffer.items
          c.put_bytes.ensures.items c.put_head.ensures.items c.put_serial.ensures.items
          c.put_bytes-2.ensures.items c.put_ends.ensures.items c.put_bytes-3.ensures.items
          c.put_number.ensures.items c.put_bytes-4.ensures.items;
      len =
          omega (
            arith,
            c.put_bytes.ensures.len,
            c.put_head.ensures.len,
            c.put_serial.ensures.len,
            c.put_bytes-2.ensures.len,
            c.put_ends.ensures.len,
            c.put_bytes-3.ensures.len,
            c.put_number.ensures.len,
            c.put_bytes-4.ensures.len,
          );
    }
