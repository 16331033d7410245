mod Felt
