use Rattle.host.proofs.forms.kotuseraw_ballot_cmp.Goals as goal

pub returns : goal.returns
returns c =
    cc
