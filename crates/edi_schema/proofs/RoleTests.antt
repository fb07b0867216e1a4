-- What tests, ranks and exchanges say of roles.
use Rattle.std.proofs.Common.{◌≡◌, ◌≢◌, ◌∙◌, ℕ, zero, suc, false, true≢false, refl, sym, ap}
use Rattle.edi_schema.specs.Roles.{exchanged, is_plain, role_rank}
use Rattle.edi_schema.specs.declared.role.Role.{Role}
use Rattle.edi_schema.specs.declared.role.Role.TheVariants.{Initial, Final, Left, Right, Plain}

pub not_plain : (role : Role) → is_plain role ≡ false → role ≢ Plain
not_plain role h e = true≢false (sym (ap is_plain e) ∙ h)

pub is_plain_not : (role : Role) → role ≢ Plain → is_plain role ≡ false
is_plain_not Initial h = refl
is_plain_not Final h = refl
is_plain_not Left h = refl
is_plain_not Right h = refl
is_plain_not Plain h = absurd (h refl)

pub exchanged_back : (role : Role) → exchanged (exchanged role) ≡ role
exchanged_back Initial = refl
exchanged_back Final = refl
exchanged_back Left = refl
exchanged_back Right = refl
exchanged_back Plain = refl

pub still_plain : (role : Role) → is_plain (exchanged role) ≡ is_plain role
still_plain Initial = refl
still_plain Final = refl
still_plain Left = refl
still_plain Right = refl
still_plain Plain = refl

abbrev of_rank : ℕ → Role
of_rank zero = Initial
of_rank (suc zero) = Final
of_rank (suc (suc zero)) = Left
of_rank (suc (suc (suc zero))) = Right
of_rank (suc (suc (suc (suc n)))) = Plain

rank_back : (role : Role) → role ≡ of_rank (role_rank role)
rank_back Initial = refl
rank_back Final = refl
rank_back Left = refl
rank_back Right = refl
rank_back Plain = refl

pub one_role : (a b : Role) → role_rank a ≡ role_rank b → a ≡ b
one_role a b h = rank_back a ∙ (ap of_rank h ∙ sym (rank_back b))
