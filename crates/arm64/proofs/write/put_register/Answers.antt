-- `put_register`: a rule with the register's name.
use Rattle.arm64.specs.Arm64.{saved_text}
use Rattle.arm64.proofs.write.put_register.Goals as goal

pub returns : goal.returns
unfolding saved_text
returns c = rw c.arm64_register_name-name.ensures at c.put_saved.ensures
