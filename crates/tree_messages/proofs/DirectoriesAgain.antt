-- Messages of specs/Directories.antt that are written are read again.
use Rattle.std.proofs.Common.{[], ◌∷◌, refl}
use Rattle.protobuf_wire.specs.Again.{AreReadAgain}
use Rattle.protobuf_wire.proofs.ReadAgain.{flag_again, string_again}
use Rattle.protobuf_wire.proofs.Fitting.{embedded_fits, repeated_fits}
use Rattle.protobuf_wire.proofs.Messages.{is_written, embedded_part, flag_part, repeated_part, string_part}
use Rattle.tree_messages.specs.Directories.{file_node_of, file_node_records, FitsFileNode, directory_node_of, directory_node_records, FitsDirectoryNode, symlink_node_of, symlink_node_records, FitsSymlinkNode, directory_of, directory_records, FitsDirectory, tree_of, tree_records, FitsTree}
use Rattle.reapi_messages.specs.Digests.{digest_of, digest_records, FitsDigest}
use Rattle.reapi_messages.proofs.DigestsAgain.{digest_again}

pub file_node_again : AreReadAgain file_node_of file_node_records FitsFileNode
unfolding file_node_of
file_node_again v h short =
    let found = is_written (string_part 1 v.name ∷ embedded_part 2 digest_records v.digest ∷ flag_part 4 v.is_executable ∷
    []) refl short in
    rw (
      found.parsed,
      string_again 1 v.name _ h.name found.places.0,
      embedded_fits digest_of digest_records FitsDigest digest_again 2 v.digest _ h.digest found.shorts.1.0 found.places.1.0,
      flag_again 4 v.is_executable _ found.places.1.1.0,
    ) refl

pub directory_node_again : AreReadAgain directory_node_of directory_node_records FitsDirectoryNode
unfolding directory_node_of
directory_node_again v h short =
    let found = is_written (string_part 1 v.name ∷ embedded_part 2 digest_records v.digest ∷ []) refl short in
    rw (
      found.parsed,
      string_again 1 v.name _ h.name found.places.0,
      embedded_fits digest_of digest_records FitsDigest digest_again 2 v.digest _ h.digest found.shorts.1.0 found.places.1.0,
    ) refl

pub symlink_node_again : AreReadAgain symlink_node_of symlink_node_records FitsSymlinkNode
unfolding symlink_node_of
symlink_node_again v h short =
    let found = is_written (string_part 1 v.name ∷ string_part 2 v.target ∷ []) refl short in
    rw (found.parsed, string_again 1 v.name _ h.name found.places.0, string_again 2 v.target _ h.target found.places.1.0) refl

pub directory_again : AreReadAgain directory_of directory_records FitsDirectory
unfolding directory_of
directory_again v h short =
    let found = is_written (repeated_part 1 file_node_records v.files ∷ repeated_part 2 directory_node_records v.directories ∷
    repeated_part 3 symlink_node_records v.symlinks ∷ []) refl short in
    rw (
      found.parsed,
      repeated_fits file_node_of file_node_records FitsFileNode file_node_again 1 v.files _ h.files found.shorts.0 found.places.0,
      repeated_fits directory_node_of directory_node_records FitsDirectoryNode directory_node_again 2 v.directories _ h.directories found.shorts.1.0 found.places.1.0,
      repeated_fits symlink_node_of symlink_node_records FitsSymlinkNode symlink_node_again 3 v.symlinks _ h.symlinks found.shorts.1.1.0 found.places.1.1.0,
    ) refl

pub tree_again : AreReadAgain tree_of tree_records FitsTree
unfolding tree_of
tree_again v h short =
    let found = is_written (embedded_part 1 directory_records v.root ∷ repeated_part 2 directory_records v.children ∷ []) refl short in
    rw (
      found.parsed,
      embedded_fits directory_of directory_records FitsDirectory directory_again 1 v.root _ h.root found.shorts.0 found.places.0,
      repeated_fits directory_of directory_records FitsDirectory directory_again 2 v.children _ h.children found.shorts.1.0 found.places.1.0,
    ) refl
