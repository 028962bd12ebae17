-- A refusal's figures: so many cells behind the number, zeros from the second on.
use Rattle.std.specs.Prelude.{ℕ, zero, suc, ◌-◌, ◌≤◌, refl, [], ◌∷◌}
use Rattle.std.proofs.Common.{arith}
use Rattle.figures.specs.Figures.{Leads, zero_filled}

pub refused_leads : (count number place : ℕ) → 1 ≤ count → count ≤ 5 → Leads (number ∷ place ∷ 0 ∷ 0 ∷ 0 ∷ 0 ∷ []) count number (place ∷ zero_filled (count - 1) [])
refused_leads zero number place h l = absurd (omega (arith, h))
refused_leads (suc zero) number place h l = (omega arith, refl, refl)
refused_leads (suc (suc zero)) number place h l = (omega arith, refl, refl)
refused_leads (suc (suc (suc zero))) number place h l = (omega arith, refl, refl)
refused_leads (suc (suc (suc (suc zero)))) number place h l = (omega arith, refl, refl)
refused_leads (suc (suc (suc (suc (suc zero))))) number place h l = (omega arith, refl, refl)
refused_leads (suc (suc (suc (suc (suc (suc n)))))) number place h l = absurd (omega (arith, l))
