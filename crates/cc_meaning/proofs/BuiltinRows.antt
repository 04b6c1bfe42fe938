-- The built-in uses and the index names at chosen values; the results are those of node 20.
use Rattle.std.specs.Prelude.{◌≡◌, pos, negsuc, [], ◌∷◌, Some, None, codes, map}
use Rattle.std.proofs.Common.{refl}
use Rattle.cc_meaning.specs.Values.{obj}
use Rattle.cc_meaning.specs.Operators.{gives, decimal}
use Rattle.cc_meaning.specs.Names.{index_value, enumeration}
use Rattle.cc_meaning.specs.Builtins.{text_char_at, text_char_code_at, text_index_of, text_last_index_of, text_slice, text_substring, text_use, string_use, from_char_codes, math_max, math_min, math_abs, math_use, array_push, array_unshift, array_pop, array_shift, array_slice, array_concat, array_join, array_index_of, array_use, concat_use, changes, array_breaks, answers, answers_array, list_arg, text_method, array_method, math_method}
use Rattle.cc_meaning.proofs.Shown.{w, minus, t, undef, nul, yes, rule1, rule2}

rows-text_char_at : map (text_use text_char_at (codes "abc")) (((w 0) ∷ []) ∷ ((w 2) ∷ []) ∷ ((w 3) ∷ []) ∷ ((minus 1) ∷ []) ∷ ([]) ∷ [])
    ≡ gives (t (codes "a")) ∷ gives (t (codes "c")) ∷ gives (t (codes "")) ∷ gives (t (codes "")) ∷ rule2 ∷ []
unfolding text_use
rows-text_char_at = refl

rows-text_char_code_at : map (text_use text_char_code_at (codes "abc")) (((w 0) ∷ []) ∷ ((w 3) ∷ []) ∷ ((minus 1) ∷ []) ∷ ((t (codes "0")) ∷ []) ∷ [])
    ≡ gives (w 97) ∷ rule1 ∷ rule1 ∷ rule2 ∷ []
unfolding text_use
rows-text_char_code_at = refl

rows-text_index_of : map (text_use text_index_of (codes "abcabc")) (((t (codes "bc")) ∷ []) ∷ ((t (codes "x")) ∷ []) ∷ ((t (codes "")) ∷ []) ∷ ((t (codes "abcabcd")) ∷ []) ∷ ((w 1) ∷ []) ∷ [])
    ≡ gives (w 1) ∷ gives (minus 1) ∷ gives (w 0) ∷ gives (minus 1) ∷ rule2 ∷ []
unfolding text_use
rows-text_index_of = refl

rows-text_last_index_of : map (text_use text_last_index_of (codes "abcabc")) (((t (codes "bc")) ∷ []) ∷ ((t (codes "x")) ∷ []) ∷ ((t (codes "")) ∷ []) ∷ ((t (codes "abc")) ∷ []) ∷ ((t (codes "cab")) ∷ []) ∷ [])
    ≡ gives (w 4) ∷ gives (minus 1) ∷ gives (w 6) ∷ gives (w 3) ∷ gives (w 2) ∷ []
unfolding text_use
rows-text_last_index_of = refl

rows-text_slice : map (text_use text_slice (codes "abcde")) (((w 1) ∷ []) ∷ ((minus 2) ∷ []) ∷ ((w 9) ∷ []) ∷ ((w 1) ∷ (w 3) ∷ []) ∷ ((minus 3) ∷ (minus 1) ∷ []) ∷ ((w 3) ∷ (w 1) ∷ []) ∷ ((w 0) ∷ (w 9) ∷ []) ∷ ((minus 9) ∷ (w 2) ∷ []) ∷ ([]) ∷ [])
    ≡ gives (t (codes "bcde")) ∷ gives (t (codes "de")) ∷ gives (t (codes "")) ∷ gives (t (codes "bc")) ∷ gives (t (codes "cd")) ∷ gives (t (codes "")) ∷ gives (t (codes "abcde")) ∷ gives (t (codes "ab")) ∷ rule2 ∷ []
unfolding text_use
rows-text_slice = refl

rows-text_substring : map (text_use text_substring (codes "abcde")) (((w 1) ∷ []) ∷ ((minus 2) ∷ []) ∷ ((w 9) ∷ []) ∷ ((w 1) ∷ (w 3) ∷ []) ∷ ((w 3) ∷ (w 1) ∷ []) ∷ ((minus 3) ∷ (w 2) ∷ []) ∷ ((w 0) ∷ (w 9) ∷ []) ∷ ((t (codes "1")) ∷ []) ∷ [])
    ≡ gives (t (codes "bcde")) ∷ gives (t (codes "abcde")) ∷ gives (t (codes "")) ∷ gives (t (codes "bc")) ∷ gives (t (codes "bc")) ∷ gives (t (codes "ab")) ∷ gives (t (codes "abcde")) ∷ rule2 ∷ []
unfolding text_use
rows-text_substring = refl

rows-string : map string_use ((undef ∷ []) ∷ (nul ∷ []) ∷ (yes ∷ []) ∷ ((w 0) ∷ []) ∷ ((minus 12) ∷ []) ∷ ((w 9007199254740991) ∷ []) ∷ ((t (codes "a")) ∷ []) ∷ ([]) ∷ ((w 1) ∷ (w 2) ∷ []) ∷ [])
    ≡ gives (t (codes "undefined")) ∷ gives (t (codes "null")) ∷ gives (t (codes "true")) ∷ gives (t (codes "0")) ∷ gives (t (codes "-12")) ∷ gives (t (codes "9007199254740991")) ∷ gives (t (codes "a")) ∷ rule2 ∷ rule2 ∷ []
unfolding string_use
rows-string = refl

rows-char_codes : map from_char_codes (([]) ∷ ((w 97) ∷ []) ∷ ((w 97) ∷ (w 98) ∷ []) ∷ ((w 65633) ∷ (minus 65439) ∷ []) ∷ ((t (codes "a")) ∷ []) ∷ [])
    ≡ gives (t (codes "")) ∷ gives (t (codes "a")) ∷ gives (t (codes "ab")) ∷ gives (t (codes "aa")) ∷ rule2 ∷ []
unfolding from_char_codes
rows-char_codes = refl

rows-max : map (math_use math_max) (((w 3) ∷ []) ∷ ((minus 3) ∷ []) ∷ ((w 0) ∷ []) ∷ ((w 1) ∷ (w 5) ∷ (minus 2) ∷ []) ∷ ((minus 1) ∷ (minus 5) ∷ []) ∷ ([]) ∷ ((w 1) ∷ (t (codes "2")) ∷ []) ∷ [])
    ≡ gives (w 3) ∷ gives (minus 3) ∷ gives (w 0) ∷ gives (w 5) ∷ gives (minus 1) ∷ rule2 ∷ rule2 ∷ []
unfolding math_use
rows-max = refl

rows-min : map (math_use math_min) (((w 3) ∷ []) ∷ ((minus 3) ∷ []) ∷ ((w 0) ∷ []) ∷ ((w 1) ∷ (w 5) ∷ (minus 2) ∷ []) ∷ ((minus 1) ∷ (minus 5) ∷ []) ∷ ([]) ∷ ((w 1) ∷ (t (codes "2")) ∷ []) ∷ [])
    ≡ gives (w 3) ∷ gives (minus 3) ∷ gives (w 0) ∷ gives (minus 2) ∷ gives (minus 5) ∷ rule2 ∷ rule2 ∷ []
unfolding math_use
rows-min = refl

rows-abs : map (math_use math_abs) (((w 3) ∷ []) ∷ ((minus 3) ∷ []) ∷ ((w 0) ∷ []) ∷ ((w 1) ∷ (w 5) ∷ (minus 2) ∷ []) ∷ ((minus 1) ∷ (minus 5) ∷ []) ∷ ([]) ∷ ((w 1) ∷ (t (codes "2")) ∷ []) ∷ [])
    ≡ gives (w 3) ∷ gives (w 3) ∷ gives (w 0) ∷ rule2 ∷ rule2 ∷ rule2 ∷ rule2 ∷ []
unfolding math_use
rows-abs = refl

rows-array-1 : array_use array_push ((w 1) ∷ []) ((w 2) ∷ (t (codes "a")) ∷ []) ≡ changes (record { elements = (w 1) ∷ (w 2) ∷ (t (codes "a")) ∷ []; answer = answers (w 3) })
unfolding array_use
rows-array-1 = refl

rows-array-2 : array_use array_push ([]) ([]) ≡ changes (record { elements = []; answer = answers (w 0) })
unfolding array_use
rows-array-2 = refl

rows-array-3 : array_use array_unshift ((w 1) ∷ []) ((w 2) ∷ (t (codes "a")) ∷ []) ≡ changes (record { elements = (w 2) ∷ (t (codes "a")) ∷ (w 1) ∷ []; answer = answers (w 3) })
unfolding array_use
rows-array-3 = refl

rows-array-4 : array_use array_pop ((w 1) ∷ (w 2) ∷ []) ([]) ≡ changes (record { elements = (w 1) ∷ []; answer = answers (w 2) })
unfolding array_use
rows-array-4 = refl

rows-array-5 : array_use array_pop ([]) ([]) ≡ changes (record { elements = []; answer = answers undef })
unfolding array_use
rows-array-5 = refl

rows-array-6 : array_use array_shift ((w 1) ∷ (w 2) ∷ []) ([]) ≡ changes (record { elements = (w 2) ∷ []; answer = answers (w 1) })
unfolding array_use
rows-array-6 = refl

rows-array-7 : array_use array_shift ([]) ([]) ≡ changes (record { elements = []; answer = answers undef })
unfolding array_use
rows-array-7 = refl

rows-array-8 : array_use array_slice ((w 1) ∷ (w 2) ∷ (w 3) ∷ (w 4) ∷ []) ([]) ≡ changes (record { elements = (w 1) ∷ (w 2) ∷ (w 3) ∷ (w 4) ∷ []; answer = answers_array ((w 1) ∷ (w 2) ∷ (w 3) ∷ (w 4) ∷ []) })
unfolding array_use
rows-array-8 = refl

rows-array-9 : array_use array_slice ((w 1) ∷ (w 2) ∷ (w 3) ∷ (w 4) ∷ []) ((w 1) ∷ []) ≡ changes (record { elements = (w 1) ∷ (w 2) ∷ (w 3) ∷ (w 4) ∷ []; answer = answers_array ((w 2) ∷ (w 3) ∷ (w 4) ∷ []) })
unfolding array_use
rows-array-9 = refl

rows-array-10 : array_use array_slice ((w 1) ∷ (w 2) ∷ (w 3) ∷ (w 4) ∷ []) ((minus 2) ∷ []) ≡ changes (record { elements = (w 1) ∷ (w 2) ∷ (w 3) ∷ (w 4) ∷ []; answer = answers_array ((w 3) ∷ (w 4) ∷ []) })
unfolding array_use
rows-array-10 = refl

rows-array-11 : array_use array_slice ((w 1) ∷ (w 2) ∷ (w 3) ∷ (w 4) ∷ []) ((w 1) ∷ (minus 1) ∷ []) ≡ changes (record { elements = (w 1) ∷ (w 2) ∷ (w 3) ∷ (w 4) ∷ []; answer = answers_array ((w 2) ∷ (w 3) ∷ []) })
unfolding array_use
rows-array-11 = refl

rows-array-12 : array_use array_slice ((w 1) ∷ (w 2) ∷ (w 3) ∷ (w 4) ∷ []) ((w 3) ∷ (w 1) ∷ []) ≡ changes (record { elements = (w 1) ∷ (w 2) ∷ (w 3) ∷ (w 4) ∷ []; answer = answers_array ([]) })
unfolding array_use
rows-array-12 = refl

rows-array-13 : array_use array_join ((w 1) ∷ undef ∷ nul ∷ yes ∷ (t (codes "a")) ∷ []) ([]) ≡ changes (record { elements = (w 1) ∷ undef ∷ nul ∷ yes ∷ (t (codes "a")) ∷ []; answer = answers (t (codes "1,,,true,a")) })
unfolding array_use
rows-array-13 = refl

rows-array-14 : array_use array_join ((w 1) ∷ (minus 2) ∷ (w 3) ∷ []) ((t (codes "--")) ∷ []) ≡ changes (record { elements = (w 1) ∷ (minus 2) ∷ (w 3) ∷ []; answer = answers (t (codes "1---2--3")) })
unfolding array_use
rows-array-14 = refl

rows-array-15 : array_use array_join ([]) ((t (codes "x")) ∷ []) ≡ changes (record { elements = []; answer = answers (t (codes "")) })
unfolding array_use
rows-array-15 = refl

rows-array-16 : array_use array_index_of ((w 1) ∷ (t (codes "1")) ∷ (w 2) ∷ (w 1) ∷ []) ((t (codes "1")) ∷ []) ≡ changes (record { elements = (w 1) ∷ (t (codes "1")) ∷ (w 2) ∷ (w 1) ∷ []; answer = answers (w 1) })
unfolding array_use
rows-array-16 = refl

rows-array-17 : array_use array_index_of ((w 1) ∷ (w 2) ∷ []) ((w 3) ∷ []) ≡ changes (record { elements = (w 1) ∷ (w 2) ∷ []; answer = answers (minus 1) })
unfolding array_use
rows-array-17 = refl

rows-array-18 : array_use array_index_of (undef ∷ nul ∷ []) (nul ∷ []) ≡ changes (record { elements = undef ∷ nul ∷ []; answer = answers (w 1) })
unfolding array_use
rows-array-18 = refl

rows-concat : concat_use (w 1 ∷ []) (list_arg (w 2 ∷ w 3 ∷ []) ∷ list_arg [] ∷ list_arg (w 4 ∷ []) ∷ []) ≡ changes (record { elements = w 1 ∷ []; answer = answers_array ((w 1) ∷ (w 2) ∷ (w 3) ∷ (w 4) ∷ []) })
unfolding concat_use
rows-concat = refl

rows-array_kinds :
    array_use array_concat [] (w 1 ∷ []) ∷ array_use array_join (obj 1 ∷ []) [] ∷ array_use array_pop (w 1 ∷ []) (w 1 ∷ []) ∷ array_use array_slice [] (undef ∷ []) ∷ array_use array_index_of [] [] ∷ []
    ≡ array_breaks 2 ∷ array_breaks 2 ∷ array_breaks 2 ∷ array_breaks 2 ∷ array_breaks 2 ∷ []
unfolding array_use
rows-array_kinds = refl

rows-methods : (text_method (codes "lastIndexOf") ≡ Some text_last_index_of) × (text_method (codes "push") ≡ None) × (array_method (codes "indexOf") ≡ Some array_index_of) × (array_method (codes "lastIndexOf") ≡ None) × (math_method (codes "abs") ≡ Some math_abs)
unfolding text_method array_method math_method
rows-methods = (refl, refl, refl, refl, refl)

rows-index_names : map index_value ((codes "0") ∷ (codes "00") ∷ (codes "01") ∷ (codes "1") ∷ (codes "10") ∷ (codes "4294967294") ∷ (codes "4294967295") ∷ (codes "9999999999") ∷ (codes "-1") ∷ (codes "") ∷ (codes "a") ∷ (codes "1a") ∷ (codes "1.0") ∷ (codes " 1") ∷ [])
    ≡ Some 0 ∷ None ∷ None ∷ Some 1 ∷ Some 10 ∷ Some 4294967294 ∷ None ∷ None ∷ None ∷ None ∷ None ∷ None ∷ None ∷ None ∷ []
unfolding index_value
rows-index_names = refl

rows-enumeration : enumeration ((codes "b") ∷ (codes "10") ∷ (codes "2") ∷ (codes "a") ∷ (codes "01") ∷ (codes "4294967295") ∷ (codes "4294967294") ∷ (codes "0") ∷ []) ≡ (codes "0") ∷ (codes "2") ∷ (codes "10") ∷ (codes "4294967294") ∷ (codes "b") ∷ (codes "a") ∷ (codes "01") ∷ (codes "4294967295") ∷ []
unfolding enumeration
rows-enumeration = refl

rows-decimal : map decimal (pos 0 ∷ pos 10 ∷ negsuc 6 ∷ negsuc 9007199254740990 ∷ []) ≡ (codes "0") ∷ (codes "10") ∷ (codes "-7") ∷ (codes "-9007199254740991") ∷ []
unfolding decimal
rows-decimal = refl
