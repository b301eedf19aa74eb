use Rattle.std.proofs.lemmas.Result.{on_ok_weaker}
use Rattle.std.proofs.Common.{◌∙◌}
use Rattle.cdc_list.proofs.Texts.{out_text}
use Rattle.cdc_list.proofs.out_lines.push_out_lines.Goals as goal

-- the out's own line stands behind those of its files
pub returns-clause-told : goal.returns-clause-told
returns-clause-told g c told image same =
    on_ok_weaker c.push_line.result
    (λ is. is ∙ out_text c.args.out c.args.front.now image c.args.text.now c.push_file_lines.new.text c.out_line.result.items (c.in_default.ensures.told told image same) c.out_line.ensures)
    c.push_line.ensures.ok
