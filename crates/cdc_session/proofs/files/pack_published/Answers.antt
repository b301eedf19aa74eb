use Rattle.std.proofs.Common.{◌≡◌, ℕ, ◌≤◌, List, length, take, drop, ap, sym, ◌∙◌, subst, arith}
use Rattle.cdc_outside.specs.Disk.{Image}
use Rattle.cdc_outside.specs.declared.disk_file.DiskFile.TheVariants.{Log}
use Rattle.cdc_records.specs.Published.{published_file}
use Rattle.cdc_index.specs.Chain.{is_chain}
use Rattle.cdc_session.proofs.Chains.{published_is, whole_is, boundary_is}
use Rattle.cdc_session.proofs.Views.{shows_nothing}
use Rattle.cdc_session.proofs.files.pack_published.Goals as goal

pub returns-then-at-source-clause-whole : goal.returns-then-at-source-clause-whole
returns-then-at-source-clause-whole g c told image same whole bound e =
    let limit : c.in-Ok.source.limit ≡ length (published_file c.args.front.now image c.args.number) =
    c.in-Ok.ensures.told told ∙ ap (λ (i : Image). length (published_file c.args.front.now i c.args.number)) same in
    let behind = boundary_is (published_file c.args.front.now image c.args.number) c.args.at whole bound in
    let within = behind.within in
    omega (arith, limit, within, c.if-at-source.true)

pub returns-clause-whole : goal.returns-clause-whole
returns-clause-whole g c told image same whole bound =
    let content : List ℕ = published_file c.args.front.now image c.args.number in
    let limit : c.in-Ok.source.limit ≡ length content = c.in-Ok.ensures.told told ∙ ap (λ (i : Image). length (published_file c.args.front.now i c.args.number)) same in
    let published = published_is c.args.front.now image c.args.number c.in-Ok.source.limit limit in
    let file : image c.in-Ok.source.file ≡ image (Log c.args.number) = ap image c.in-Ok.ensures.file in
    let bytes : content ≡ take c.in-Ok.source.limit (image c.in-Ok.source.file) = sym (ap (λ (l : List ℕ). take c.in-Ok.source.limit l) file ∙ published.same) in
    let within : c.in-Ok.source.limit ≤ length (image c.in-Ok.source.file) = subst (λ (l : List ℕ). c.in-Ok.source.limit ≤ length l) (sym file) published.within in
    let behind = boundary_is content c.args.at whole bound in
    c.pack_part.ensures.whole told image ((c.in-Ok.ensures.alone told).same ∙ same)
    (shows_nothing (image c.in-Ok.source.file) c.new_window-window.result.bytes c.new_window-window.result.from c.new_window-window.result.size c.in-Ok.source.limit
    c.new_window-window.ensures within)
    (ap (λ (l : List ℕ). is_chain (drop 4 l)) (sym bytes) ∙ (whole_is content whole).chain)
    (ap (λ (l : List ℕ). is_chain (drop c.args.at l)) (sym bytes) ∙ behind.chain)
