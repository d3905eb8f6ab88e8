-- `sheet::Cursor::header` meets its contract: each field stands in the sheet where it stands in its header. Assumes nothing.
use mathlib.Core.Path.{refl, ◌∙◌}
use Rattle.sheet.proofs.Fields.{kind_there, stated_number_there, stated_sum_there, value_date_there, marks_there}
use Rattle.sheet.proofs.Cursor.header.Goals as goal

pub returns : goal.returns
returns c =
    let s = c.args.s.now in
    let at = c.args.self.at in
    record {
      place = refl;
      kind = c.u8_at.ensures ∙ kind_there s at;
      number = c.u64_at.ensures ∙ stated_number_there s at;
      sum = c.u64_at-2.ensures ∙ stated_sum_there s at;
      date = c.u32_at.ensures ∙ value_date_there s at;
      marks = c.u8_at-2.ensures ∙ marks_there s at;
      moved = refl;
    }
