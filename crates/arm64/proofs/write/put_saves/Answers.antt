-- `put_saves`: by what is saved; two registers, and .ra by the test.
use Rattle.std.proofs.Common.{arith, append-nil}
use Rattle.text.specs.Text.Laws.{put_none, ◌⨾◌}
use Rattle.arm64.specs.Arm64.{saves_text, ra_text}
use Rattle.arm64.proofs.write.put_saves.Goals as goal

pub returns-in-Nothing : goal.returns-in-Nothing
unfolding saves_text
returns-in-Nothing c = rw c.in-Nothing.is (put_none (omega arith) (omega arith))

pub returns-in-Alone : goal.returns-in-Alone
unfolding saves_text
returns-in-Alone c = rw c.in-Alone.is c.put_register.ensures

pub returns-then-is_lr : goal.returns-then-is_lr
unfolding saves_text ra_text
returns-then-is_lr c =
    rw (c.in-Paired.is, ← c.if-is_lr.ensures)
    (c.put_register-at.ensures ⨾ c.put_register-at-in-Paired.ensures ⨾ (rw c.ra_name.ensures at c.put_saved.ensures))

pub returns-else-is_lr : goal.returns-else-is_lr
unfolding saves_text
returns-else-is_lr c =
    rw (c.in-Paired.is, ← c.if-is_lr.ensures, append-nil) (c.put_register-at.ensures ⨾ c.put_register-at-in-Paired.ensures)
