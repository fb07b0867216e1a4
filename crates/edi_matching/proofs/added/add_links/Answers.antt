use Rattle.std.proofs.Common.{◌≡◌, ℕ, Bool, List, Option, subst, sym}
use Rattle.edi_matching.specs.inner.Additions.{AddsPairs, HaveOneKey}
use Rattle.edi_matching.proofs.KeysAdded.{links_more}
use Rattle.edi_matching.proofs.added.add_links.Goals.{then-has_key, else-has_key}
use Rattle.edi_matching.proofs.added.add_links.Goals as goal

pub loop-key-preserved : goal.loop-key-preserved
loop-key-preserved g c =
    let eq = g.K.PartialEq.eq in
    let links = c.deref-key-items.result.now in
    let others = c.as_slice-others.result.now in
    let links_are : links ≡ c.args.links.items = c.deref-key-items.ensures.value in
    let others_are : others ≡ c.args.others.items = c.as_slice-others.ensures.value in
    let start = c.args.to.now in
    let free = c.args.taken.now in
    elim c.if-has_key.branch [
      | then-has_key w ↦
          let so = subst (λ (ys : List (g.row.K.Denot × ℕ)). AddsPairs (HaveOneKey eq (λ (k : ℕ). k) links ys) start free c.loop-key.to c.loop-key.taken) (sym others_are)
          (subst (λ (xs : List (g.row.K.Denot × ℕ)). AddsPairs (HaveOneKey eq (λ (k : ℕ). k) xs c.args.others.items) start free c.loop-key.to c.loop-key.taken) (sym links_are) c.loop-key.invariant) in
          let made = links_more eq links others start free c.loop-key.to c.loop-key.taken w.add.new.to w.add.new.taken so c.loop-key.key-index c.first_from-at.result c.loop-key-item.result w.index-others-at.result
          c.loop-key-test.true c.loop-key-item.is (c.has_key.ensures.0 w.if-has_key.true) w.add.ensures in
          subst (λ (ts : List (Option ℕ)). AddsPairs (HaveOneKey eq (λ (k : ℕ). k) c.args.links.items c.args.others.items) start free ts c.if-has_key.taken) (sym w.to-is)
          (subst (λ (bs : List Bool). AddsPairs (HaveOneKey eq (λ (k : ℕ). k) c.args.links.items c.args.others.items) start free w.add.new.to bs) (sym w.taken-is)
          (subst (λ (ys : List (g.row.K.Denot × ℕ)). AddsPairs (HaveOneKey eq (λ (k : ℕ). k) c.args.links.items ys) start free w.add.new.to w.add.new.taken) others_are
          (subst (λ (xs : List (g.row.K.Denot × ℕ)). AddsPairs (HaveOneKey eq (λ (k : ℕ). k) xs others) start free w.add.new.to w.add.new.taken) links_are made)))
      | else-has_key w ↦
          subst (λ (ts : List (Option ℕ)). AddsPairs (HaveOneKey eq (λ (k : ℕ). k) c.args.links.items c.args.others.items) start free ts c.if-has_key.taken) (sym w.to-is)
          (subst (λ (bs : List Bool). AddsPairs (HaveOneKey eq (λ (k : ℕ). k) c.args.links.items c.args.others.items) start free c.loop-key.to bs) (sym w.taken-is) c.loop-key.invariant)
    ]
