-- Five arguments ask for a sheet.
use Rattle.std.proofs.Common.{◌≡◌, ℕ, List, [], ◌∷◌, map, length, get_or, ap, ◌∙◌, arith}
use Rattle.inspect.specs.Requests.{sheet_asked, requested}

pub five_asked :
    {A : Type 0} (f : A → List ℕ) (xs : List A) {b c d e : A} {flag period jitter distance : List ℕ} → length xs ≡ 5 →
    b ≡ get_or xs 1 b → flag ≡ f b → c ≡ get_or xs 2 c → period ≡ f c → d ≡ get_or xs 3 d → jitter ≡ f d → e ≡ get_or xs 4 e → distance ≡ f e →
    sheet_asked flag period jitter distance ≡ requested (map f xs)
five_asked f (v ∷ w ∷ x ∷ y ∷ z ∷ []) h e₁ t₁ e₂ t₂ e₃ t₃ e₄ t₄ =
    λ i. sheet_asked ((t₁ ∙ ap f e₁) i) ((t₂ ∙ ap f e₂) i) ((t₃ ∙ ap f e₃) i) ((t₄ ∙ ap f e₄) i)
five_asked f _ h e₁ t₁ e₂ t₂ e₃ t₃ e₄ t₄ = absurd (omega arith)
