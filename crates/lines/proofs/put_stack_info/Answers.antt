-- `put_stack_info`: the words, nine fields and the flag, one after the other.
use Rattle.text.specs.Text.Laws.{◌⨾◌}
use Rattle.lines.specs.Lines.{win_text}
use Rattle.lines.proofs.put_stack_info.Goals as goal

pub returns : goal.returns
unfolding win_text
returns c =
    c.put_bytes-p.ensures ⨾ c.put_field-p.ensures ⨾ c.put_field-p-2.ensures ⨾ c.put_field-p-3.ensures
    ⨾ c.put_field-p-4.ensures ⨾ c.put_field-p-5.ensures ⨾ c.put_field-p-6.ensures
    ⨾ c.put_field-p-7.ensures ⨾ c.put_field-p-8.ensures ⨾ c.put_field-p-9.ensures ⨾ c.put_flag.ensures
