use Rattle.std.proofs.Common.{◌≡◌, sym, ap, ◌∙◌}
use Rattle.std.specs.Prelude.{Ok}
use Rattle.table.specs.Tables.{find}
use Rattle.rules.specs.Rooms.{unseen_account}
use Rattle.near.specs.Steps.{opened_step}
use Rattle.near.proofs.Near.opened.Goals as goal

pub returns : goal.returns
returns c = λ a b i o m f e.
    let h = ap (λ n. n.parties.first.here) (sym e) ∙ c.if-self.false in
    let g = sym f ∙ c.if-filled.false in
    rw (c.let_in.ensures, c.none.ensures, h, g) (ap (λ z. Ok z) (opened_step m a b i o e (unseen_account (find m.accounts a) h) _))
