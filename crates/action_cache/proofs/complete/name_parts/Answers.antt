use Rattle.std.proofs.Common.{arith}
use Rattle.tree_messages.specs.Results.{output_directory_shown, output_file_shown}
use Rattle.instance_view.specs.Texts.{look_of}
use Rattle.action_cache.specs.Work.{tree_length, tree_looks}
use Rattle.action_cache.proofs.Looks.{as_many, files_looked, files_read, same_trees}
use Rattle.action_cache.proofs.complete.name_parts.Goals as goal

pub returns-in_err-name_each-clause-looks : goal.returns-in_err-name_each-clause-looks
returns-in_err-name_each-clause-looks c =
    let files = files_looked output_file_shown c.deref.result.now c.args.parts.now.output_files.items c.deref.ensures.value in
    let first = c.name_each.ensures.looks in
    omega (arith, files, first)

pub returns-in_err-name_each-clause-bytes : goal.returns-in_err-name_each-clause-bytes
returns-in_err-name_each-clause-bytes c =
    let files = files_read output_file_shown c.deref.result.now in
    let first = c.name_each.ensures.bytes in
    omega (arith, files, first)

pub returns-in_err-name_trees-clause-looks : goal.returns-in_err-name_trees-clause-looks
returns-in_err-name_trees-clause-looks c =
    let files = files_looked output_file_shown c.deref.result.now c.args.parts.now.output_files.items c.deref.ensures.value in
    let first = c.name_each.ensures.looks in
    let many = as_many output_directory_shown c.deref-2.result.now c.args.parts.now.output_directories.items c.deref-2.ensures.value in
    let trees = same_trees output_directory_shown (tree_looks (look_of c.args.blobs.now.texts)) c.deref-2.result.now
    c.args.parts.now.output_directories.items c.deref-2.ensures.value in
    let second = c.name_trees.ensures.looks in
    omega (arith, files, first, many, trees, second)

pub returns-in_err-name_trees-clause-bytes : goal.returns-in_err-name_trees-clause-bytes
returns-in_err-name_trees-clause-bytes c =
    let files = files_read output_file_shown c.deref.result.now in
    let first = c.name_each.ensures.bytes in
    let trees = same_trees output_directory_shown (tree_length (look_of c.args.blobs.now.texts)) c.deref-2.result.now
    c.args.parts.now.output_directories.items c.deref-2.ensures.value in
    let second = c.name_trees.ensures.bytes in
    omega (arith, files, first, trees, second)

pub returns-in_err-name_set-clause-looks : goal.returns-in_err-name_set-clause-looks
returns-in_err-name_set-clause-looks c =
    let files = files_looked output_file_shown c.deref.result.now c.args.parts.now.output_files.items c.deref.ensures.value in
    let first = c.name_each.ensures.looks in
    let many = as_many output_directory_shown c.deref-2.result.now c.args.parts.now.output_directories.items c.deref-2.ensures.value in
    let trees = same_trees output_directory_shown (tree_looks (look_of c.args.blobs.now.texts)) c.deref-2.result.now
    c.args.parts.now.output_directories.items c.deref-2.ensures.value in
    let second = c.name_trees.ensures.looks in
    let third = c.name_set.ensures.looks in
    omega (arith, files, first, many, trees, second, third)

pub returns-in_err-name_set-clause-bytes : goal.returns-in_err-name_set-clause-bytes
returns-in_err-name_set-clause-bytes c =
    let files = files_read output_file_shown c.deref.result.now in
    let first = c.name_each.ensures.bytes in
    let trees = same_trees output_directory_shown (tree_length (look_of c.args.blobs.now.texts)) c.deref-2.result.now
    c.args.parts.now.output_directories.items c.deref-2.ensures.value in
    let second = c.name_trees.ensures.bytes in
    let third = c.name_set.ensures.bytes in
    omega (arith, files, first, trees, second, third)

pub returns-in_err-name_set-2-clause-looks : goal.returns-in_err-name_set-2-clause-looks
returns-in_err-name_set-2-clause-looks c =
    let files = files_looked output_file_shown c.deref.result.now c.args.parts.now.output_files.items c.deref.ensures.value in
    let first = c.name_each.ensures.looks in
    let many = as_many output_directory_shown c.deref-2.result.now c.args.parts.now.output_directories.items c.deref-2.ensures.value in
    let trees = same_trees output_directory_shown (tree_looks (look_of c.args.blobs.now.texts)) c.deref-2.result.now
    c.args.parts.now.output_directories.items c.deref-2.ensures.value in
    let second = c.name_trees.ensures.looks in
    let third = c.name_set.ensures.looks in
    let fourth = c.name_set-2.ensures.looks in
    omega (arith, files, first, many, trees, second, third, fourth)

pub returns-in_err-name_set-2-clause-bytes : goal.returns-in_err-name_set-2-clause-bytes
returns-in_err-name_set-2-clause-bytes c =
    let files = files_read output_file_shown c.deref.result.now in
    let first = c.name_each.ensures.bytes in
    let trees = same_trees output_directory_shown (tree_length (look_of c.args.blobs.now.texts)) c.deref-2.result.now
    c.args.parts.now.output_directories.items c.deref-2.ensures.value in
    let second = c.name_trees.ensures.bytes in
    let third = c.name_set.ensures.bytes in
    let fourth = c.name_set-2.ensures.bytes in
    omega (arith, files, first, trees, second, third, fourth)

pub returns-clause-looks : goal.returns-clause-looks
returns-clause-looks c =
    let files = files_looked output_file_shown c.deref.result.now c.args.parts.now.output_files.items c.deref.ensures.value in
    let first = c.name_each.ensures.looks in
    let many = as_many output_directory_shown c.deref-2.result.now c.args.parts.now.output_directories.items c.deref-2.ensures.value in
    let trees = same_trees output_directory_shown (tree_looks (look_of c.args.blobs.now.texts)) c.deref-2.result.now
    c.args.parts.now.output_directories.items c.deref-2.ensures.value in
    let second = c.name_trees.ensures.looks in
    let third = c.name_set.ensures.looks in
    let fourth = c.name_set-2.ensures.looks in
    omega (arith, files, first, many, trees, second, third, fourth)

pub returns-clause-bytes : goal.returns-clause-bytes
returns-clause-bytes c =
    let files = files_read output_file_shown c.deref.result.now in
    let first = c.name_each.ensures.bytes in
    let trees = same_trees output_directory_shown (tree_length (look_of c.args.blobs.now.texts)) c.deref-2.result.now
    c.args.parts.now.output_directories.items c.deref-2.ensures.value in
    let second = c.name_trees.ensures.bytes in
    let third = c.name_set.ensures.bytes in
    let fourth = c.name_set-2.ensures.bytes in
    omega (arith, files, first, trees, second, third, fourth)
