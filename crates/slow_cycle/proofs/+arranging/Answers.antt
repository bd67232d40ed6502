use mathlib.Core.Path.{refl}
use Rattle.std.proofs.Common.{rules}
use Rattle.slow_step.proofs.Cycle.{calls, turns-away}
use Rattle.slow_cycle.proofs.+arranging.Goals as goal

pub analysis-view-requires : goal.analysis-view-requires
analysis-view-requires t c = calls c.requires c.enter.ensures c.in-Ok.is _ t c.decreases (search rules) refl

pub analysis-check-requires : goal.analysis-check-requires
analysis-check-requires t c = calls c.requires c.enter.ensures c.in-Ok.is _ t c.decreases (search rules) refl

pub analysis-returned-requires : goal.analysis-returned-requires
analysis-returned-requires t c = calls c.requires c.enter.ensures c.in-Ok.is _ t c.decreases (search rules) refl

pub analysis-credit-requires : goal.analysis-credit-requires
analysis-credit-requires t c = calls c.requires c.enter.ensures c.in-Ok.is _ t c.decreases (search rules) refl

pub analysis-bundle_control-requires : goal.analysis-bundle_control-requires
analysis-bundle_control-requires t c = calls c.requires c.enter.ensures c.in-Ok.is _ t c.decreases (search rules) refl

pub analysis-not_called_for-requires : goal.analysis-not_called_for-requires
analysis-not_called_for-requires t c = turns-away c.requires c.enter.ensures c.in-Ok.is (search rules)

pub bundle-check-requires : goal.bundle-check-requires
bundle-check-requires t c = calls c.requires c.enter.ensures c.in-Ok.is _ t c.decreases (search rules) refl

pub bundle-returned-requires : goal.bundle-returned-requires
bundle-returned-requires t c = calls c.requires c.enter.ensures c.in-Ok.is _ t c.decreases (search rules) refl

pub bundle-credit-requires : goal.bundle-credit-requires
bundle-credit-requires t c = calls c.requires c.enter.ensures c.in-Ok.is _ t c.decreases (search rules) refl

pub bundle-not_called_for-requires : goal.bundle-not_called_for-requires
bundle-not_called_for-requires t c = turns-away c.requires c.enter.ensures c.in-Ok.is (search rules)

pub bundle_control-bundle-requires : goal.bundle_control-bundle-requires
bundle_control-bundle-requires t c = calls c.requires c.enter.ensures c.in-Ok.is _ t c.decreases (search rules) refl

pub bundle_control-own_credit-requires : goal.bundle_control-own_credit-requires
bundle_control-own_credit-requires t c = calls c.requires c.enter.ensures c.in-Ok.is _ t c.decreases (search rules) refl

pub bundle_control-letter_control-requires : goal.bundle_control-letter_control-requires
bundle_control-letter_control-requires t c = calls c.requires c.enter.ensures c.in-Ok.is _ t c.decreases (search rules) refl

pub bundle_control-not_called_for-requires : goal.bundle_control-not_called_for-requires
bundle_control-not_called_for-requires t c = turns-away c.requires c.enter.ensures c.in-Ok.is (search rules)

pub check-check_a-requires : goal.check-check_a-requires
check-check_a-requires t c = calls c.requires c.enter.ensures c.in-Ok.is _ t c.decreases (search rules) refl

pub check-check_b-requires : goal.check-check_b-requires
check-check_b-requires t c = calls c.requires c.enter.ensures c.in-Ok.is _ t c.decreases (search rules) refl

pub check-check_c-requires : goal.check-check_c-requires
check-check_c-requires t c = calls c.requires c.enter.ensures c.in-Ok.is _ t c.decreases (search rules) refl

pub check-view-requires : goal.check-view-requires
check-view-requires t c = calls c.requires c.enter.ensures c.in-Ok.is _ t c.decreases (search rules) refl

pub check-check-requires : goal.check-check-requires
check-check-requires t c = calls c.requires c.enter.ensures c.in-Ok.is _ t c.decreases (search rules) refl

pub check-credit-requires : goal.check-credit-requires
check-credit-requires t c = calls c.requires c.enter.ensures c.in-Ok.is _ t c.decreases (search rules) refl

pub check-bundle_control-requires : goal.check-bundle_control-requires
check-bundle_control-requires t c = calls c.requires c.enter.ensures c.in-Ok.is _ t c.decreases (search rules) refl

pub check-not_called_for-requires : goal.check-not_called_for-requires
check-not_called_for-requires t c = turns-away c.requires c.enter.ensures c.in-Ok.is (search rules)

pub check_a-check_a-requires : goal.check_a-check_a-requires
check_a-check_a-requires t c = calls c.requires c.enter.ensures c.in-Ok.is _ t c.decreases (search rules) refl

pub check_a-check_b-requires : goal.check_a-check_b-requires
check_a-check_b-requires t c = calls c.requires c.enter.ensures c.in-Ok.is _ t c.decreases (search rules) refl

pub check_a-check_c-requires : goal.check_a-check_c-requires
check_a-check_c-requires t c = calls c.requires c.enter.ensures c.in-Ok.is _ t c.decreases (search rules) refl

pub check_a-view-requires : goal.check_a-view-requires
check_a-view-requires t c = calls c.requires c.enter.ensures c.in-Ok.is _ t c.decreases (search rules) refl

pub check_a-check-requires : goal.check_a-check-requires
check_a-check-requires t c = calls c.requires c.enter.ensures c.in-Ok.is _ t c.decreases (search rules) refl

pub check_a-credit-requires : goal.check_a-credit-requires
check_a-credit-requires t c = calls c.requires c.enter.ensures c.in-Ok.is _ t c.decreases (search rules) refl

pub check_a-bundle_control-requires : goal.check_a-bundle_control-requires
check_a-bundle_control-requires t c = calls c.requires c.enter.ensures c.in-Ok.is _ t c.decreases (search rules) refl

pub check_a-not_called_for-requires : goal.check_a-not_called_for-requires
check_a-not_called_for-requires t c = turns-away c.requires c.enter.ensures c.in-Ok.is (search rules)

pub check_b-check_c-requires : goal.check_b-check_c-requires
check_b-check_c-requires t c = calls c.requires c.enter.ensures c.in-Ok.is _ t c.decreases (search rules) refl

pub check_b-view-requires : goal.check_b-view-requires
check_b-view-requires t c = calls c.requires c.enter.ensures c.in-Ok.is _ t c.decreases (search rules) refl

pub check_b-check-requires : goal.check_b-check-requires
check_b-check-requires t c = calls c.requires c.enter.ensures c.in-Ok.is _ t c.decreases (search rules) refl

pub check_b-credit-requires : goal.check_b-credit-requires
check_b-credit-requires t c = calls c.requires c.enter.ensures c.in-Ok.is _ t c.decreases (search rules) refl

pub check_b-bundle_control-requires : goal.check_b-bundle_control-requires
check_b-bundle_control-requires t c = calls c.requires c.enter.ensures c.in-Ok.is _ t c.decreases (search rules) refl

pub check_b-not_called_for-requires : goal.check_b-not_called_for-requires
check_b-not_called_for-requires t c = turns-away c.requires c.enter.ensures c.in-Ok.is (search rules)

pub check_c-check_c-requires : goal.check_c-check_c-requires
check_c-check_c-requires t c = calls c.requires c.enter.ensures c.in-Ok.is _ t c.decreases (search rules) refl

pub check_c-view-requires : goal.check_c-view-requires
check_c-view-requires t c = calls c.requires c.enter.ensures c.in-Ok.is _ t c.decreases (search rules) refl

pub check_c-check-requires : goal.check_c-check-requires
check_c-check-requires t c = calls c.requires c.enter.ensures c.in-Ok.is _ t c.decreases (search rules) refl

pub check_c-credit-requires : goal.check_c-credit-requires
check_c-credit-requires t c = calls c.requires c.enter.ensures c.in-Ok.is _ t c.decreases (search rules) refl

pub check_c-bundle_control-requires : goal.check_c-bundle_control-requires
check_c-bundle_control-requires t c = calls c.requires c.enter.ensures c.in-Ok.is _ t c.decreases (search rules) refl

pub check_c-not_called_for-requires : goal.check_c-not_called_for-requires
check_c-not_called_for-requires t c = turns-away c.requires c.enter.ensures c.in-Ok.is (search rules)

pub credit-view-requires : goal.credit-view-requires
credit-view-requires t c = calls c.requires c.enter.ensures c.in-Ok.is _ t c.decreases (search rules) refl

pub credit-credit-requires : goal.credit-credit-requires
credit-credit-requires t c = calls c.requires c.enter.ensures c.in-Ok.is _ t c.decreases (search rules) refl

pub credit-check-requires : goal.credit-check-requires
credit-check-requires t c = calls c.requires c.enter.ensures c.in-Ok.is _ t c.decreases (search rules) refl

pub credit-returned-requires : goal.credit-returned-requires
credit-returned-requires t c = calls c.requires c.enter.ensures c.in-Ok.is _ t c.decreases (search rules) refl

pub credit-bundle_control-requires : goal.credit-bundle_control-requires
credit-bundle_control-requires t c = calls c.requires c.enter.ensures c.in-Ok.is _ t c.decreases (search rules) refl

pub credit-not_called_for-requires : goal.credit-not_called_for-requires
credit-not_called_for-requires t c = turns-away c.requires c.enter.ensures c.in-Ok.is (search rules)

pub letter-bundle-requires : goal.letter-bundle-requires
letter-bundle-requires t c = calls c.requires c.enter.ensures c.in-Ok.is _ t c.decreases (search rules) refl

pub letter-own_credit-requires : goal.letter-own_credit-requires
letter-own_credit-requires t c = calls c.requires c.enter.ensures c.in-Ok.is _ t c.decreases (search rules) refl

pub letter-letter_control-requires : goal.letter-letter_control-requires
letter-letter_control-requires t c = calls c.requires c.enter.ensures c.in-Ok.is _ t c.decreases (search rules) refl

pub letter-not_called_for-requires : goal.letter-not_called_for-requires
letter-not_called_for-requires t c = turns-away c.requires c.enter.ensures c.in-Ok.is (search rules)

pub letter_control-letter-requires : goal.letter_control-letter-requires
letter_control-letter-requires t c = calls c.requires c.enter.ensures c.in-Ok.is _ t c.decreases (search rules) refl

pub letter_control-file_control-requires : goal.letter_control-file_control-requires
letter_control-file_control-requires t c = (calls c.requires c.enter.ensures c.in-Ok.is _ t c.decreases (search rules) refl).1

pub letter_control-not_called_for-requires : goal.letter_control-not_called_for-requires
letter_control-not_called_for-requires t c = turns-away c.requires c.enter.ensures c.in-Ok.is (search rules)

pub own_analysis-own_view-requires : goal.own_analysis-own_view-requires
own_analysis-own_view-requires t c = calls c.requires c.enter.ensures c.in-Ok.is _ t c.decreases (search rules) refl

pub own_analysis-own_credit-requires : goal.own_analysis-own_credit-requires
own_analysis-own_credit-requires t c = calls c.requires c.enter.ensures c.in-Ok.is _ t c.decreases (search rules) refl

pub own_analysis-bundle-requires : goal.own_analysis-bundle-requires
own_analysis-bundle-requires t c = calls c.requires c.enter.ensures c.in-Ok.is _ t c.decreases (search rules) refl

pub own_analysis-letter_control-requires : goal.own_analysis-letter_control-requires
own_analysis-letter_control-requires t c = calls c.requires c.enter.ensures c.in-Ok.is _ t c.decreases (search rules) refl

pub own_analysis-not_called_for-requires : goal.own_analysis-not_called_for-requires
own_analysis-not_called_for-requires t c = turns-away c.requires c.enter.ensures c.in-Ok.is (search rules)

pub own_credit-own_view-requires : goal.own_credit-own_view-requires
own_credit-own_view-requires t c = calls c.requires c.enter.ensures c.in-Ok.is _ t c.decreases (search rules) refl

pub own_credit-own_credit-requires : goal.own_credit-own_credit-requires
own_credit-own_credit-requires t c = calls c.requires c.enter.ensures c.in-Ok.is _ t c.decreases (search rules) refl

pub own_credit-bundle-requires : goal.own_credit-bundle-requires
own_credit-bundle-requires t c = calls c.requires c.enter.ensures c.in-Ok.is _ t c.decreases (search rules) refl

pub own_credit-letter_control-requires : goal.own_credit-letter_control-requires
own_credit-letter_control-requires t c = calls c.requires c.enter.ensures c.in-Ok.is _ t c.decreases (search rules) refl

pub own_credit-not_called_for-requires : goal.own_credit-not_called_for-requires
own_credit-not_called_for-requires t c = turns-away c.requires c.enter.ensures c.in-Ok.is (search rules)

pub own_data-own_view-requires : goal.own_data-own_view-requires
own_data-own_view-requires t c = calls c.requires c.enter.ensures c.in-Ok.is _ t c.decreases (search rules) refl

pub own_data-own_analysis-requires : goal.own_data-own_analysis-requires
own_data-own_analysis-requires t c = calls c.requires c.enter.ensures c.in-Ok.is _ t c.decreases (search rules) refl

pub own_data-own_credit-requires : goal.own_data-own_credit-requires
own_data-own_credit-requires t c = calls c.requires c.enter.ensures c.in-Ok.is _ t c.decreases (search rules) refl

pub own_data-bundle-requires : goal.own_data-bundle-requires
own_data-bundle-requires t c = calls c.requires c.enter.ensures c.in-Ok.is _ t c.decreases (search rules) refl

pub own_data-letter_control-requires : goal.own_data-letter_control-requires
own_data-letter_control-requires t c = calls c.requires c.enter.ensures c.in-Ok.is _ t c.decreases (search rules) refl

pub own_data-not_called_for-requires : goal.own_data-not_called_for-requires
own_data-not_called_for-requires t c = turns-away c.requires c.enter.ensures c.in-Ok.is (search rules)

pub own_view-own_data-requires : goal.own_view-own_data-requires
own_view-own_data-requires t c = calls c.requires c.enter.ensures c.in-Ok.is _ t c.decreases (search rules) refl

pub own_view-not_called_for-requires : goal.own_view-not_called_for-requires
own_view-not_called_for-requires t c = turns-away c.requires c.enter.ensures c.in-Ok.is (search rules)

pub return_a-return_a-requires : goal.return_a-return_a-requires
return_a-return_a-requires t c = calls c.requires c.enter.ensures c.in-Ok.is _ t c.decreases (search rules) refl

pub return_a-return_b-requires : goal.return_a-return_b-requires
return_a-return_b-requires t c = calls c.requires c.enter.ensures c.in-Ok.is _ t c.decreases (search rules) refl

pub return_a-not_called_for-requires : goal.return_a-not_called_for-requires
return_a-not_called_for-requires t c = turns-away c.requires c.enter.ensures c.in-Ok.is (search rules)

pub return_b-return_c-requires : goal.return_b-return_c-requires
return_b-return_c-requires t c = calls c.requires c.enter.ensures c.in-Ok.is _ t c.decreases (search rules) refl

pub return_b-return_d-requires : goal.return_b-return_d-requires
return_b-return_d-requires t c = calls c.requires c.enter.ensures c.in-Ok.is _ t c.decreases (search rules) refl

pub return_b-view-requires : goal.return_b-view-requires
return_b-view-requires t c = calls c.requires c.enter.ensures c.in-Ok.is _ t c.decreases (search rules) refl

pub return_b-returned-requires : goal.return_b-returned-requires
return_b-returned-requires t c = calls c.requires c.enter.ensures c.in-Ok.is _ t c.decreases (search rules) refl

pub return_b-credit-requires : goal.return_b-credit-requires
return_b-credit-requires t c = calls c.requires c.enter.ensures c.in-Ok.is _ t c.decreases (search rules) refl

pub return_b-bundle_control-requires : goal.return_b-bundle_control-requires
return_b-bundle_control-requires t c = calls c.requires c.enter.ensures c.in-Ok.is _ t c.decreases (search rules) refl

pub return_b-not_called_for-requires : goal.return_b-not_called_for-requires
return_b-not_called_for-requires t c = turns-away c.requires c.enter.ensures c.in-Ok.is (search rules)

pub return_c-return_d-requires : goal.return_c-return_d-requires
return_c-return_d-requires t c = calls c.requires c.enter.ensures c.in-Ok.is _ t c.decreases (search rules) refl

pub return_c-view-requires : goal.return_c-view-requires
return_c-view-requires t c = calls c.requires c.enter.ensures c.in-Ok.is _ t c.decreases (search rules) refl

pub return_c-returned-requires : goal.return_c-returned-requires
return_c-returned-requires t c = calls c.requires c.enter.ensures c.in-Ok.is _ t c.decreases (search rules) refl

pub return_c-credit-requires : goal.return_c-credit-requires
return_c-credit-requires t c = calls c.requires c.enter.ensures c.in-Ok.is _ t c.decreases (search rules) refl

pub return_c-bundle_control-requires : goal.return_c-bundle_control-requires
return_c-bundle_control-requires t c = calls c.requires c.enter.ensures c.in-Ok.is _ t c.decreases (search rules) refl

pub return_c-not_called_for-requires : goal.return_c-not_called_for-requires
return_c-not_called_for-requires t c = turns-away c.requires c.enter.ensures c.in-Ok.is (search rules)

pub return_d-return_d-requires : goal.return_d-return_d-requires
return_d-return_d-requires t c = calls c.requires c.enter.ensures c.in-Ok.is _ t c.decreases (search rules) refl

pub return_d-view-requires : goal.return_d-view-requires
return_d-view-requires t c = calls c.requires c.enter.ensures c.in-Ok.is _ t c.decreases (search rules) refl

pub return_d-returned-requires : goal.return_d-returned-requires
return_d-returned-requires t c = calls c.requires c.enter.ensures c.in-Ok.is _ t c.decreases (search rules) refl

pub return_d-credit-requires : goal.return_d-credit-requires
return_d-credit-requires t c = calls c.requires c.enter.ensures c.in-Ok.is _ t c.decreases (search rules) refl

pub return_d-bundle_control-requires : goal.return_d-bundle_control-requires
return_d-bundle_control-requires t c = calls c.requires c.enter.ensures c.in-Ok.is _ t c.decreases (search rules) refl

pub return_d-not_called_for-requires : goal.return_d-not_called_for-requires
return_d-not_called_for-requires t c = turns-away c.requires c.enter.ensures c.in-Ok.is (search rules)

pub returned-return_a-requires : goal.returned-return_a-requires
returned-return_a-requires t c = calls c.requires c.enter.ensures c.in-Ok.is _ t c.decreases (search rules) refl

pub returned-return_b-requires : goal.returned-return_b-requires
returned-return_b-requires t c = calls c.requires c.enter.ensures c.in-Ok.is _ t c.decreases (search rules) refl

pub returned-not_called_for-requires : goal.returned-not_called_for-requires
returned-not_called_for-requires t c = turns-away c.requires c.enter.ensures c.in-Ok.is (search rules)

pub view-view_data-requires : goal.view-view_data-requires
view-view_data-requires t c = calls c.requires c.enter.ensures c.in-Ok.is _ t c.decreases (search rules) refl

pub view-not_called_for-requires : goal.view-not_called_for-requires
view-not_called_for-requires t c = turns-away c.requires c.enter.ensures c.in-Ok.is (search rules)

pub view_data-view-requires : goal.view_data-view-requires
view_data-view-requires t c = calls c.requires c.enter.ensures c.in-Ok.is _ t c.decreases (search rules) refl

pub view_data-analysis-requires : goal.view_data-analysis-requires
view_data-analysis-requires t c = calls c.requires c.enter.ensures c.in-Ok.is _ t c.decreases (search rules) refl

pub view_data-check-requires : goal.view_data-check-requires
view_data-check-requires t c = calls c.requires c.enter.ensures c.in-Ok.is _ t c.decreases (search rules) refl

pub view_data-returned-requires : goal.view_data-returned-requires
view_data-returned-requires t c = calls c.requires c.enter.ensures c.in-Ok.is _ t c.decreases (search rules) refl

pub view_data-credit-requires : goal.view_data-credit-requires
view_data-credit-requires t c = calls c.requires c.enter.ensures c.in-Ok.is _ t c.decreases (search rules) refl

pub view_data-bundle_control-requires : goal.view_data-bundle_control-requires
view_data-bundle_control-requires t c = calls c.requires c.enter.ensures c.in-Ok.is _ t c.decreases (search rules) refl

pub view_data-not_called_for-requires : goal.view_data-not_called_for-requires
view_data-not_called_for-requires t c = turns-away c.requires c.enter.ensures c.in-Ok.is (search rules)
