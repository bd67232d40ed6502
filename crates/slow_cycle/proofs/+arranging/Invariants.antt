use Rattle.std.proofs.Common.{length, ◌-◌}
use Rattle.slow_cycle.proofs.+arranging.Given as goal

abbrev pub decreases-analysis : goal.decreases-analysis
decreases-analysis l = length l.file.now - l.at

abbrev pub decreases-bundle : goal.decreases-bundle
decreases-bundle l = length l.file.now - l.at

abbrev pub decreases-bundle_control : goal.decreases-bundle_control
decreases-bundle_control l = length l.file.now - l.at

abbrev pub decreases-check : goal.decreases-check
decreases-check l = length l.file.now - l.at

abbrev pub decreases-check_a : goal.decreases-check_a
decreases-check_a l = length l.file.now - l.at

abbrev pub decreases-check_b : goal.decreases-check_b
decreases-check_b l = length l.file.now - l.at

abbrev pub decreases-check_c : goal.decreases-check_c
decreases-check_c l = length l.file.now - l.at

abbrev pub decreases-credit : goal.decreases-credit
decreases-credit l = length l.file.now - l.at

abbrev pub decreases-letter : goal.decreases-letter
decreases-letter l = length l.file.now - l.at

abbrev pub decreases-letter_control : goal.decreases-letter_control
decreases-letter_control l = length l.file.now - l.at

abbrev pub decreases-own_analysis : goal.decreases-own_analysis
decreases-own_analysis l = length l.file.now - l.at

abbrev pub decreases-own_credit : goal.decreases-own_credit
decreases-own_credit l = length l.file.now - l.at

abbrev pub decreases-own_data : goal.decreases-own_data
decreases-own_data l = length l.file.now - l.at

abbrev pub decreases-own_view : goal.decreases-own_view
decreases-own_view l = length l.file.now - l.at

abbrev pub decreases-return_a : goal.decreases-return_a
decreases-return_a l = length l.file.now - l.at

abbrev pub decreases-return_b : goal.decreases-return_b
decreases-return_b l = length l.file.now - l.at

abbrev pub decreases-return_c : goal.decreases-return_c
decreases-return_c l = length l.file.now - l.at

abbrev pub decreases-return_d : goal.decreases-return_d
decreases-return_d l = length l.file.now - l.at

abbrev pub decreases-returned : goal.decreases-returned
decreases-returned l = length l.file.now - l.at

abbrev pub decreases-view : goal.decreases-view
decreases-view l = length l.file.now - l.at

abbrev pub decreases-view_data : goal.decreases-view_data
decreases-view_data l = length l.file.now - l.at
