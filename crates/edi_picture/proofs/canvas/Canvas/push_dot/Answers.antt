use Rattle.std.proofs.Common.{◌≡◌, ◌∙◌, Bool, List, [], ◌++◌, ℕ, codes, if◌then◌else◌, subst, sym}
use Rattle.std.proofs.lemmas.Result.{on_ok_weaker}
use Rattle.edi_picture.specs.Elements.{dot_element, dot_place, dot_size}
use Rattle.edi_picture.specs.Titles.{title_text}
use Rattle.edi_picture.proofs.Joined.{joined4}
use Rattle.edi_picture.proofs.canvas.Canvas.push_dot.Goals as goal

pub returns : goal.returns
returns c =
    let s = c.args.self.now.schema.now in
    let f = c.args.self.now.frame in
    let sheet = c.args.sheet.now in
    let old = c.args.text.now.items in
    let new = c.put.new.text.items in
    let dot : List ℕ = dot_element s f c.args.ink sheet c.args.place c.args.point.now in
    on_ok_weaker c.put.result
    (λ last. subst (λ (b : Bool). new ≡ old ++ (if b then [] else dot)) (sym (sym c.is_outside.ensures ∙ c.if-is_outside.false))
    (joined4 old (dot_place f c.args.point.now) (dot_size f c.args.ink) (title_text s sheet c.args.place []) (codes "</circle>\n")
    c.push_dot_place.new.text.items c.push_dot_size.new.text.items c.push_title.new.text.items new
    c.in_ok-push_dot_place.ensures c.in_ok-push_dot_size.ensures c.in_ok-push_title.ensures last))
    c.put.ensures
