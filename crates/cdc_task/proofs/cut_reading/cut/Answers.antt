use Rattle.std.proofs.Common.{◌≡◌, ◌<◌, ◌^◌, List, ℕ, ◌∷◌, ◌++◌, append_assoc, ◌∙◌, arith}
use Rattle.cdc_event.specs.Number.{low_first}
use Rattle.cdc_records.specs.Checkpoint.{held_list_bytes}
use Rattle.cdc_task.proofs.cut_reading.cut.Goals as goal

pub returns-clause-reads : goal.returns-clause-reads
returns-clause-reads c = λ v rest fits e.
    let tail : List ℕ = v.checksum ∷ held_list_bytes v.held in
    let marked : List ℕ = low_first 8 v.mark ++ tail in
    let placed : List ℕ = low_first 8 v.place.at ++ marked in
    let filed : List ℕ = low_first 4 v.place.file ++ placed in
    let low : v.mark < 2 ^ 64 = omega (arith, fits.mark) in
    let entry = c.number_8-entry.ensures.reads v.entry (filed ++ rest) fits.entry (e ∙ append_assoc (low_first 8 v.entry) filed rest) in
    let file = c.number_4-file.ensures.reads v.place.file (placed ++ rest) fits.file (entry.1 ∙ append_assoc (low_first 4 v.place.file) placed rest) in
    let at = c.number_8-at.ensures.reads v.place.at (marked ++ rest) fits.at (file.1 ∙ append_assoc (low_first 8 v.place.at) marked rest) in
    let mark = c.number_8-mark.ensures.reads v.mark (tail ++ rest) low (at.1 ∙ append_assoc (low_first 8 v.mark) tail rest) in
    let setting = c.byte-checksum.ensures.reads v.checksum (held_list_bytes v.held ++ rest) mark.1 in
    let held = c.in_ok-held.ensures.reads v.held rest fits.held setting.1 in
    let mark_is : c.min.result ≡ v.mark = omega (arith, c.min.ensures, mark.0, fits.mark) in
    let setting_is : c.min-2.result ≡ v.checksum = omega (arith, c.min-2.ensures, setting.0, fits.setting) in
    ((λ i. record { entry = entry.0 i; place = record { file = file.0 i; at = at.0 i }; mark = mark_is i; checksum = setting_is i; held = held.0 i }), held.1)
