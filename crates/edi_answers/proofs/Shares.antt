-- What one sheet of a census after the other adds.
use Rattle.std.proofs.Common.{◌≡◌, ◌∙◌, ℕ, Bool, List, [], ◌∷◌, ◌++◌, Option, IsTrue, map, take, refl, inl, inr, sym, ap, subst, append-nil}
use Rattle.std.specs.Prelude.{codes, flat_map, max}
use Rattle.std.specs.Io.KnownBytes.{Appends}
use Rattle.std.proofs.lemmas.Grind.{flat_map-append}
use Rattle.std.proofs.lemmas.List.Sums.{fold-append}
use Rattle.edi_line.specs.declared.broken.BrokenRule.{BrokenRule}
use Rattle.edi_schema.specs.Classes.{Classes}
use Rattle.edi_compare.specs.declared.fault.RunFault.{RunFault}
use Rattle.edi_explain.proofs.Zipped.{zip_push}
use Rattle.edi_files.specs.Reasons.{Why, ended, reason_line}
use Rattle.edi_outcome.specs.Status.{status_of_fault}
use Rattle.edi_answers.specs.Census.{AnswersCensus, IsCountedIn, IsShare, Share, SheetReadFault, TellsAllOf, shared_err, shared_out, shared_rules, status_of_all, worst_share}
use Rattle.edi_answers.specs.Census.AnswersCensus.{cut_in_counts, cut_in_sheet, counted, uncounted}
use Rattle.edi_answers.specs.Effects.{Inputs, Stream}
use Rattle.edi_answers.specs.Hashes.{TellsFault, escaped_name, fault_line}
use Rattle.edi_answers.specs.Statuses.{GoesOut, Prints, Warns}
use Rattle.edi_answers.specs.declared.form.AnswerForm.{AnswerForm}
use Rattle.edi_answers.specs.inner.Census.{AddShares, AddsShare, StopsInOne, StopsInSheet}
use Rattle.edi_answers.proofs.Answering.{appends_more, appends_nothing, goes_more, over}

added : {X : Type 0} (f : X → List ℕ) (xs : List X) (x : X) → flat_map f (xs ++ x ∷ []) ≡ flat_map f xs ++ f x
added f xs x = flat_map-append f xs (x ∷ []) ∙ ap (λ l. flat_map f xs ++ l) (append-nil (f x))

module _ (inputs : Inputs) (why : Why) (s : Classes) (form : AnswerForm) (path : List ℕ) (out err : Stream) where
  -- a sheet of which all is told
  pub told_share : (broken : List BrokenRule) (text : List ℕ) → TellsAllOf inputs s form path broken text → Prints out text → Warns err []
      → AddsShare inputs why s form path out err (status_of_all broken) (map (λ (it : BrokenRule). it.rule) broken)
  told_share broken text tells said quiet = record {
    share = record { out = text; err = []; status = status_of_all broken; rules = map (λ (it : BrokenRule). it.rule) broken };
    is = inl (broken, text, tells, refl);
    prints = said;
    warns = quiet;
    status_is = refl;
    rules_are = refl;
  }

  -- a sheet that can't be read
  pub fault_share : (e : RunFault) (status : ℕ) → SheetReadFault inputs path e → TellsFault why err e path status → Prints out []
      → AddsShare inputs why s form path out err status []
  fault_share e status is (inl (status_is, (reason, given, warns))) silent = record {
    share = record { out = []; err = fault_line e path ++ reason_line (escaped_name path) reason; status = status_of_fault e; rules = [] };
    is = inr (inl (e, reason, is, given, refl));
    prints = silent;
    warns = warns;
    status_is = sym status_is;
    rules_are = refl;
  }
  fault_share e status is (inr (five, lacks)) silent = record {
    share = record { out = []; err = ended (codes "out of memory"); status = 5; rules = [] };
    is = inr (inr refl);
    prints = silent;
    warns = lacks;
    status_is = sym five;
    rules_are = refl;
  }

pub no_shares : (inputs : Inputs) (why : Why) (s : Classes) (form : AnswerForm) (o : Option (List ℕ)) (of : Bool) (a : Option (List ℕ)) (af : Bool)
    → AddShares inputs why s form [] (over o o of) (over a a af) 0 []
no_shares inputs why s form o of a af = record {
  shares = [];
  are = tt;
  prints = appends_nothing o;
  warns = inl (appends_nothing a);
  status_is = refl;
  rules_are = refl;
}

-- over what the streams tell before the first sheet, before this one and after it
module _ (inputs : Inputs) (why : Why) (s : Classes) (form : AnswerForm) (o p q : Option (List ℕ)) (pf qf : Bool) (a b c : Option (List ℕ)) (bf cf : Bool) where
  shares_more : (paths : List (List ℕ)) (path : List ℕ) (worst status : ℕ) (rules own : List ℕ)
      → AddShares inputs why s form paths (over o p pf) (over a b bf) worst rules
      → AddsShare inputs why s form path (over p q qf) (over b c cf) status own → (IsTrue bf → IsTrue cf)
      → AddShares inputs why s form (paths ++ path ∷ []) (over o q qf) (over a c cf) (max worst status) (rules ++ own)
  shares_more paths path worst status rules own h k stays = record {
    shares = h.shares ++ k.share ∷ [];
    are = zip_push (IsShare inputs why s form) paths h.shares path k.share h.are k.is;
    prints = subst (Appends o q) (sym (added (λ (t : Share). t.out) h.shares k.share)) (appends_more o p q _ _ h.prints k.prints);
    warns = subst (GoesOut a c cf) (sym (added (λ (t : Share). t.err) h.shares k.share)) (goes_more a b c bf cf _ _ h.warns k.warns stays);
    status_is = fold-append (λ w (t : Share). max w t.status) 0 h.shares (k.share ∷ []) ∙ (ap (max (worst_share h.shares)) k.status_is ∙ ap (λ w. max w status) h.status_is);
    rules_are = added (λ (t : Share). t.rules) h.shares k.share ∙ (ap (λ l. shared_rules h.shares ++ l) k.rules_are ∙ ap (λ l. l ++ own) h.rules_are);
  }

  pub shares_next : (paths next : List (List ℕ)) (path : List ℕ) (worst status greatest : ℕ) (rules own new : List ℕ)
      → next ≡ paths ++ path ∷ [] → greatest ≡ max worst status → new ≡ rules ++ own
      → AddShares inputs why s form paths (over o p pf) (over a b bf) worst rules
      → AddsShare inputs why s form path (over p q qf) (over b c cf) status own → (IsTrue bf → IsTrue cf)
      → AddShares inputs why s form next (over o q qf) (over a c cf) greatest new
  shares_next paths next path worst status greatest rules own new is w n h k stays =
      subst (λ l. AddShares inputs why s form l (over o q qf) (over a c cf) greatest new) (sym is)
      (subst (λ g. AddShares inputs why s form (paths ++ path ∷ []) (over o q qf) (over a c cf) g new) (sym w)
      (subst (λ l. AddShares inputs why s form (paths ++ path ∷ []) (over o q qf) (over a c cf) (max worst status) l) (sym n)
      (shares_more paths path worst status rules own h k stays)))

  pub stops_more : (paths done more : List (List ℕ)) (path : List ℕ) (worst : ℕ) (rules : List ℕ) → paths ≡ done ++ path ∷ more
      → AddShares inputs why s form done (over o p pf) (over a b bf) worst rules → StopsInSheet inputs s form path (over p q qf)
      → GoesOut b c cf [] → (IsTrue bf → IsTrue cf) → StopsInOne inputs why s form paths (over o q qf) (over a c cf)
  stops_more paths done more path worst rules is h k quiet stays = record {
    done = done;
    more = more;
    path = path;
    shares = h.shares;
    broken = k.broken;
    text = k.text;
    count = k.count;
    paths_are = is;
    are = h.are;
    tells = k.tells;
    failed = k.failed;
    prints = appends_more o p q _ _ h.prints k.prints;
    warns = subst (GoesOut a c cf) (append-nil (shared_err h.shares)) (goes_more a b c bf cf _ _ h.warns quiet stays);
  }

  -- the counts went out behind the sheets
  pub all_counted : (paths : List (List ℕ)) (worst status : ℕ) (rules counts : List ℕ) → AddShares inputs why s form paths (over o p pf) (over a b bf) worst rules
      → IsCountedIn form rules counts → Appends p q counts → GoesOut b c cf [] → (IsTrue bf → IsTrue cf) → status ≡ worst
      → AnswersCensus inputs why s form (over o q qf) (over a c cf) paths status
  all_counted paths worst status rules counts h tells said quiet stays is = counted h.shares counts h.are
      (subst (λ l. IsCountedIn form l counts) (sym h.rules_are) tells)
      (appends_more o p q _ _ h.prints said)
      (subst (GoesOut a c cf) (append-nil (shared_err h.shares)) (goes_more a b c bf cf _ _ h.warns quiet stays))
      (is ∙ sym h.status_is)

  -- the output failed in the counts
  pub counts_cut : (paths : List (List ℕ)) (worst status count : ℕ) (rules counts : List ℕ) → AddShares inputs why s form paths (over o p pf) (over a b bf) worst rules
      → IsCountedIn form rules counts → Appends p q (take count counts) → IsTrue qf → GoesOut b c cf (ended (codes "cannot write standard output")) → (IsTrue bf → IsTrue cf) → status ≡ 4
      → AnswersCensus inputs why s form (over o q qf) (over a c cf) paths status
  counts_cut paths worst status count rules counts h tells said fails told stays four = cut_in_counts h.shares counts h.are
      (subst (λ l. IsCountedIn form l counts) (sym h.rules_are) tells) (record {
        count = count;
        prints = appends_more o p q _ _ h.prints said;
        failed = fails;
        warns = goes_more a b c bf cf _ _ h.warns told stays;
        status_is = four;
      })

  -- there was no memory for the counts
  pub not_counted : (paths : List (List ℕ)) (worst status : ℕ) (rules : List ℕ) → AddShares inputs why s form paths (over o p pf) (over a b bf) worst rules
      → Appends p q [] → GoesOut b c cf (ended (codes "out of memory")) → (IsTrue bf → IsTrue cf) → status ≡ 5
      → AnswersCensus inputs why s form (over o q qf) (over a c cf) paths status
  not_counted paths worst status rules h silent told stays five = uncounted h.shares h.are
      (subst (Appends o q) (append-nil (shared_out h.shares)) (appends_more o p q _ _ h.prints silent))
      (goes_more a b c bf cf _ _ h.warns told stays) five

  -- the output failed in the lines of a sheet
  pub sheet_cut : (paths : List (List ℕ)) (status : ℕ) → StopsInOne inputs why s form paths (over o p pf) (over a b bf)
      → p ≡ q → pf ≡ qf → GoesOut b c cf (ended (codes "cannot write standard output")) → (IsTrue bf → IsTrue cf) → status ≡ 4
      → AnswersCensus inputs why s form (over o q qf) (over a c cf) paths status
  sheet_cut paths status h same same_fails told stays four = cut_in_sheet h.done h.more h.path h.shares h.broken h.text h.paths_are h.are h.tells (record {
    count = h.count;
    prints = subst (λ (after : Option (List ℕ)). Appends o after (shared_out h.shares ++ take h.count h.text)) same h.prints;
    failed = subst IsTrue same_fails h.failed;
    warns = goes_more a b c bf cf _ _ h.warns told stays;
    status_is = four;
  })
